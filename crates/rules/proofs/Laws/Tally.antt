-- The laws of tallies: who is held after a join, the size after a join, the size as a count of 1..n. Assumes nothing.
use mathlib.Core.Path.{◌≡◌, refl, sym, ap, ◌∙◌, subst}
use mathlib.Core.Bool.{Bool, true, false, ◌||◌, or-true}
use mathlib.Core.Logic.{◌≢◌, ◌↔◌}
use Prim.Native.Nat.{ℕ, zero, suc, ◌+◌, ◌-◌, ◌/◌, ◌%◌, ◌^◌, ◌≤◌, ◌<◌}
use native.Mathlib.Nat.{mod-lt, mod-eq_of_lt, div_self, div-eq_of_lt, mul-mod_left, mod-one, pow-suc, zero-div}
use native.Mathlib.Numerals.{one-add}
use native.Mathlib.Decide.{ℕ_discrete, dec_lt}
use native.Mathlib.Omega.{arith}
use lib.Arith.{bin_ind}
use lib.Bits.{bit_or, or_lt, or_shr, or_mod}
use lib.Count.{ones, ones_step, ones_cat}
use lib.Dec.{eqb}
use lib.Pow.{pow_pos, pow-lt, pow-add, mod-pow-add, shl-shr}
use borrow.Author.Tests.{eq-eqb, ne_eqb, leb-true, ltb-true, lt-ltb}
use Rattle.rules.specs.Limits.{majority}
use Rattle.rules.specs.Tally.{bit_of, count, holds, joined, meets, within}
use Rattle.rules.proofs.Laws.Count.{count-ext, count-gain, majorities-meet}

-- ---- the size as a count

-- a digit is its own count
digit : (d : ℕ) → d < 2 → ones d ≡ bit_of (eqb d 1)
unfolding ones
digit zero h = refl
digit (suc zero) h = refl
digit (suc (suc d)) h = absurd (omega arith)

zero-ones : ones 0 ≡ 0
unfolding ones
zero-ones = refl

-- of any number, the n lowest digits that are set are counted
pub ones-mod : (t n : ℕ) → ones (t % 2 ^ n) ≡ count (holds t) n
unfolding count holds
ones-mod t zero = ap ones (mod-one t) ∙ zero-ones
ones-mod t (suc n) =
    ap (λ (k : ℕ). ones (t % 2 ^ k)) (sym (one-add n))
    ∙ ap ones (mod-pow-add t 1 n)
    ∙ ones_cat n (t / 2 ^ n % 2) (t % 2 ^ n) (mod-lt t (pow_pos n))
    ∙ next (ones-mod t n)
  where
    next : ones (t % 2 ^ n) ≡ count (holds t) n → ones (t / 2 ^ n % 2) + ones (t % 2 ^ n) ≡ count (holds t) n + bit_of (holds t (suc n))
    next ih =
        let top : ones (t / 2 ^ n % 2) ≡ bit_of (eqb (t / 2 ^ n % 2) 1) = digit (t / 2 ^ n % 2) (mod-lt (t / 2 ^ n) (omega arith)) in
        let same : bit_of (holds t (suc n)) ≡ bit_of (eqb (t / 2 ^ n % 2) 1) = ap (λ (k : ℕ). bit_of (eqb (t / 2 ^ k % 2) 1)) (omega arith) in
        omega arith

-- a tally with no sender above n has the size that counts its senders of 1..n
pub ones-count : (t n : ℕ) → t < 2 ^ n → ones t ≡ count (holds t) n
ones-count t n h = ap ones (sym (mod-eq_of_lt h)) ∙ ones-mod t n

-- it is empty where its size is 0, and only there
pub ones-zero : (t : ℕ) → (ones t ≡ 0) ↔ (t ≡ 0)
ones-zero t = (
  bin_ind (λ (n : ℕ). ones n ≡ 0 → n ≡ 0) (λ e. refl)
      (λ n ih e. let h : n / 2 ≡ 0 = ih (omega (arith, ones_step n)) in omega (arith, ones_step n)) t,
  λ e. ap ones e ∙ zero-ones,
)

-- ---- joins

-- the digit i of 2 ^ a is 1 at a, and 0 at every other place
one_at : (a : ℕ) → 2 ^ a / 2 ^ a % 2 ≡ 1
one_at a = ap (λ (x : ℕ). x % 2) (div_self (pow_pos a))

one_below : (a i : ℕ) → a < i → 2 ^ a / 2 ^ i % 2 ≡ 0
one_below a i h = ap (λ (x : ℕ). x % 2) (div-eq_of_lt (pow-lt h))

one-above : (d i : ℕ) → 2 ^ (suc d + i) / 2 ^ i % 2 ≡ 0
one-above d i =
    ap (λ (x : ℕ). x / 2 ^ i % 2) (pow-add 2 (suc d) i) ∙ ap (λ (x : ℕ). x % 2) (shl-shr (2 ^ suc d) i ∙ pow-suc 2 d)
    ∙ mul-mod_left (2 ^ d) 2

one-not : (a i : ℕ) → i ≢ a → 2 ^ a / 2 ^ i % 2 ≡ 0
one-not a i h = go (dec_lt a i)
  where
    go : Dec (a < i) → 2 ^ a / 2 ^ i % 2 ≡ 0
    go (yes l) = one_below a i l
    go (no g) = subst (λ (x : ℕ). 2 ^ x / 2 ^ i % 2 ≡ 0) (omega (arith, g)) (one-above (a - i - 1) i)

-- the digits of an or
or-bit : (x y : ℕ) → x < 2 → y < 2 → eqb (bit_or x y) 1 ≡ (eqb y 1 || eqb x 1)
or-bit zero zero h g = refl
or-bit zero (suc zero) h g = refl
or-bit (suc zero) zero h g = refl
or-bit (suc zero) (suc zero) h g = refl
or-bit zero (suc (suc y)) h g = absurd (omega arith)
or-bit (suc zero) (suc (suc y)) h g = absurd (omega arith)
or-bit (suc (suc x)) y h g = absurd (omega arith)

or-digit : (a b i : ℕ) → eqb (bit_or a b / 2 ^ i % 2) 1 ≡ (eqb (b / 2 ^ i % 2) 1 || eqb (a / 2 ^ i % 2) 1)
or-digit a b i =
    ap (λ (x : ℕ). eqb (x % 2) 1) (or_shr a b i) ∙ ap (λ (x : ℕ). eqb x 1) (or_mod (a / 2 ^ i) (b / 2 ^ i) 1)
    ∙ or-bit (a / 2 ^ i % 2) (b / 2 ^ i % 2) (mod-lt (a / 2 ^ i) (omega arith)) (mod-lt (b / 2 ^ i) (omega arith))

-- after j has joined, j is held, and of the others those that were
pub holds-joined : (t j k : ℕ) → 1 ≤ j → 1 ≤ k → holds (joined t j) k ≡ (eqb k j || holds t k)
unfolding holds joined
holds-joined t j k a b = or-digit t (2 ^ (j - 1)) (k - 1) ∙ ap (λ (x : Bool). x || eqb (t / 2 ^ (k - 1) % 2) 1) (go (ℕ_discrete k j))
  where
    go : Dec (k ≡ j) → eqb (2 ^ (j - 1) / 2 ^ (k - 1) % 2) 1 ≡ eqb k j
    go (yes e) = ap (λ (x : ℕ). eqb (2 ^ (j - 1) / 2 ^ (x - 1) % 2) 1) e ∙ ap (λ (x : ℕ). eqb x 1) (one_at (j - 1)) ∙ sym (eq-eqb k j e)
    go (no ne) = ap (λ (x : ℕ). eqb x 1) (one-not (j - 1) (k - 1) (λ g. ne (omega arith))) ∙ sym (ne_eqb k j ne)

pub holds-own : (t j : ℕ) → 1 ≤ j → holds (joined t j) j ≡ true
holds-own t j a = holds-joined t j j a a ∙ ap (λ (x : Bool). x || holds t j) (eq-eqb j j refl)

pub holds-other : (t j k : ℕ) → 1 ≤ j → 1 ≤ k → k ≢ j → holds (joined t j) k ≡ holds t k
holds-other t j k a b h = holds-joined t j k a b ∙ ap (λ (x : Bool). x || holds t k) (ne_eqb k j h)

-- who was held still is
pub holds_kept : (t j k : ℕ) → 1 ≤ j → 1 ≤ k → holds t k ≡ true → holds (joined t j) k ≡ true
holds_kept t j k a b h = holds-joined t j k a b ∙ ap (λ (x : Bool). eqb k j || x) h ∙ or-true (eqb k j)

-- ---- the size after a join

module _ (t j n : ℕ) (ht : t < 2 ^ n) (a : 1 ≤ j) (b : j ≤ n) where
  -- no sender above n comes in
  pub joined-below : joined t j < 2 ^ n
  unfolding joined
  joined-below = or_lt n t (2 ^ (j - 1)) ht (pow-lt {i = j - 1} {j = n} (omega arith))

  pub ones-new : holds t j ≡ false → ones (joined t j) ≡ ones t + 1
  ones-new f =
      let after : ones (joined t j) ≡ count (holds (joined t j)) n = ones-count (joined t j) n joined-below in
      let before : ones t ≡ count (holds t) n = ones-count t n ht in
      let gain : count (holds (joined t j)) n ≡ count (holds t) n + 1 =
      count-gain (holds t) (holds (joined t j)) n j a b f (holds-own t j a) (λ k c h. holds-other t j k a c h) in
      omega arith

  pub ones-held : holds t j ≡ true → ones (joined t j) ≡ ones t
  ones-held h =
      ones-count (joined t j) n joined-below
      ∙ count-ext (holds t) (holds (joined t j)) n (λ k c d. go k c (ℕ_discrete k j))
      ∙ sym (ones-count t n ht)
    where
      go : (k : ℕ) → 1 ≤ k → Dec (k ≡ j) → holds (joined t j) k ≡ holds t k
      go k c (no ne) = holds-other t j k a c ne
      go k c (yes e) = ap (holds (joined t j)) e ∙ holds-own t j a ∙ sym (ap (holds t) e ∙ h)

-- ---- majorities

-- a tally that meets the majority counts that many of 1..n
pub ones-least : (t n m : ℕ) → t < 2 ^ n → m ≤ ones t → m ≤ count (holds t) n
ones-least t n m h g = omega (arith, ones-count t n h)

pub meets-count : (t n : ℕ) → t < 2 ^ n → meets t n ≡ true → majority n ≤ count (holds t) n
unfolding meets
meets-count t n h e = ones-least t n (majority n) h (leb-true (majority n) (ones t) e)

-- two tallies that meet the majority of 1..n share a sender
pub meets-share : (t u n : ℕ) → t < 2 ^ n → u < 2 ^ n → meets t n ≡ true → meets u n ≡ true
    → (j : ℕ) × (1 ≤ j) × (j ≤ n) × (holds t j ≡ true) × (holds u j ≡ true)
meets-share t u n ht hu mt mu = majorities-meet (holds t) (holds u) n (meets-count t n ht mt) (meets-count u n hu mu)

-- the empty tally holds nobody, and a tally that holds somebody is not empty
pub holds-empty : (j : ℕ) → holds 0 j ≡ false
unfolding holds
holds-empty j = ap (λ (x : ℕ). eqb (x % 2) 1) (zero-div (2 ^ (j - 1)))

-- ---- no sender above n

pub within-true : (t n : ℕ) → (within t n ≡ true) ↔ (t < 2 ^ n)
unfolding within
within-true t n = (ltb-true t (2 ^ n), lt-ltb t (2 ^ n))

-- a sender of 1..n may join
pub within-joined : (t j n : ℕ) → within t n ≡ true → 1 ≤ j → j ≤ n → within (joined t j) n ≡ true
within-joined t j n h a b = (within-true (joined t j) n).1 (joined-below t j n ((within-true t n).0 h) a b)

-- the empty tally has none
pub within-empty : (n : ℕ) → within 0 n ≡ true
within-empty n = (within-true 0 n).1 (pow_pos n)
