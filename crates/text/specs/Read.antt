-- What is read at a place of a text: a thing and the place after it, or the place of the first byte that breaks the form. Assumes nothing.
use Rattle.std.specs.Prelude.{ℕ, Result, Ok, Err}
use Rattle.text.specs.declared.number.Broken.{Broken}

abbrev pub Read : Type 0 → Type 0
Read A = Result (A × ℕ) Broken

abbrev pub bad : {A : Type 0} → ℕ → Result A Broken
bad p = Err (record { place = p })

-- going on after what was read: what it gives where the form is broken, and where the thing is there
abbrev pub on_read : {A B : Type 0} → Read A → (ℕ → B) → (A → ℕ → B) → B
on_read (Err e) z f = z e.place
on_read (Ok (x, n)) z f = f x n
