-- A list of bytes stands in a text from one place up to another. Assumes nothing.
use Rattle.std.specs.Prelude.{◌≡◌, List, ◌++◌, ℕ, ◌+◌, length, drop}

pub record Stands (s : List ℕ) (at next : ℕ) (l : List ℕ) : Type 0 where
  pub here : drop at s ≡ l ++ drop next s
  pub end : next ≡ at + length l
