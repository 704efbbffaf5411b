-- A function that is changed at one place, and a table that is changed at one place: the laws by which proofs use them.
-- Proofs below never open `upd` or `upd2`. Assumes nothing.
use mathlib.Core.Path.{◌≡◌, refl, sym, ap, ◌∙◌, subst}
use mathlib.Core.Logic.{◌≢◌, ◌⊎◌, inl, inr, ite, if_pos, if_neg}
use Prim.Native.Nat.{ℕ}
use native.Mathlib.Decide.{ℕ_discrete}

-- f, but x at i
unfoldable pub upd : {A : Type 0} → (ℕ → A) → ℕ → A → ℕ → A
upd f i x j = ite (ℕ_discrete i j) x (f j)

-- at i, and elsewhere
pub upd_same : {A : Type 0} (f : ℕ → A) (i : ℕ) (x : A) → upd f i x i ≡ x
unfolding upd
upd_same f i x = if_pos (ℕ_discrete i i) refl x (f i)

pub upd_other : {A : Type 0} (f : ℕ → A) (i : ℕ) (x : A) (j : ℕ) → i ≢ j → upd f i x j ≡ f j
unfolding upd
upd_other f i x j h = if_neg (ℕ_discrete i j) h x (f j)

-- what holds of x at i, and of f elsewhere, holds of the changed function
pub upd-all : {A : Type 0} (P : ℕ → A → Type 0) (f : ℕ → A) (i : ℕ) (x : A)
    → P i x → ((j : ℕ) → i ≢ j → P j (f j)) → (j : ℕ) → P j (upd f i x j)
upd-all {A} P f i x h k j = go (ℕ_discrete i j)
  where
    go : Dec (i ≡ j) → P j (upd f i x j)
    go (yes e) = subst (λ (l : ℕ). P l (upd f i x l)) e (subst (λ (y : A). P i y) (sym (upd_same f i x)) h)
    go (no d) = subst (λ (y : A). P j y) (sym (upd_other f i x j d)) (k j d)

-- a second change at i hides the first
pub upd-upd : {A : Type 0} (f : ℕ → A) (i : ℕ) (x y : A) (j : ℕ) → upd (upd f i x) i y j ≡ upd f i y j
upd-upd {A} f i x y =
    upd-all (λ (j : ℕ) (z : A). z ≡ upd f i y j) (upd f i x) i y (sym (upd_same f i y))
    (λ j d. upd_other f i x j d ∙ sym (upd_other f i y j d))

-- a function of the changed function is the changed composite
pub upd-map : {A B : Type 0} (f : A → B) (g : ℕ → A) (i : ℕ) (x : A) (j : ℕ) → f (upd g i x j) ≡ upd (λ k. f (g k)) i (f x) j
upd-map {A} {B} f g i x j =
    sym (upd-all (λ (k : ℕ) (y : B). y ≡ f (upd g i x k)) (λ k. f (g k)) i (f x) (ap f (sym (upd_same g i x))) (λ k d. ap f (sym (upd_other g i x k d))) j)

-- a table, but x at (r, i)
unfoldable pub upd2 : {A : Type 0} → (ℕ → ℕ → A) → ℕ → ℕ → A → ℕ → ℕ → A
upd2 f r i x = upd f r (upd (f r) i x)

-- an entry of the changed table is the old one, or it is the changed one
pub upd2-cases : {A : Type 0} (f : ℕ → ℕ → A) (r i : ℕ) (x : A) (s p : ℕ)
    → (upd2 f r i x s p ≡ f s p) ⊎ ((r ≡ s) × (i ≡ p) × (upd2 f r i x s p ≡ x))
unfolding upd2
upd2-cases {A} f r i x s p = go (ℕ_discrete r s) (ℕ_discrete i p)
  where
    row : r ≡ s → upd2 f r i x s ≡ upd (f r) i x
    row e = subst (λ (t : ℕ). upd f r (upd (f r) i x) t ≡ upd (f r) i x) e (upd_same f r (upd (f r) i x))

    go : Dec (r ≡ s) → Dec (i ≡ p) → (upd2 f r i x s p ≡ f s p) ⊎ ((r ≡ s) × (i ≡ p) × (upd2 f r i x s p ≡ x))
    go (no d) _ = inl (ap (λ (g : ℕ → A). g p) (upd_other f r (upd (f r) i x) s d))
    go (yes e) (no d) = inl (ap (λ (g : ℕ → A). g p) (row e) ∙ upd_other (f r) i x p d ∙ ap (λ (t : ℕ). f t p) e)
    go (yes e) (yes k) =
        inr (e, k, ap (λ (g : ℕ → A). g p) (row e) ∙ subst (λ (t : ℕ). upd (f r) i x t ≡ x) k (upd_same (f r) i x))

-- the changed entry
pub upd2-same : {A : Type 0} (f : ℕ → ℕ → A) (r i : ℕ) (x : A) → upd2 f r i x r i ≡ x
unfolding upd2
upd2-same {A} f r i x = ap (λ (g : ℕ → A). g i) (upd_same f r (upd (f r) i x)) ∙ upd_same (f r) i x

-- a table that is x at (r, i), and f elsewhere, is the changed one
pub upd2-ext : {A : Type 0} (g f : ℕ → ℕ → A) (r i : ℕ) (x : A) → g r i ≡ x → ((s p : ℕ) → ¬ ((r ≡ s) × (i ≡ p)) → g s p ≡ f s p)
    → (s p : ℕ) → g s p ≡ upd2 f r i x s p
upd2-ext {A} g f r i x h k s p = go (upd2-cases f r i x s p) (ℕ_discrete r s) (ℕ_discrete i p)
  where
    here : r ≡ s → i ≡ p → g s p ≡ upd2 f r i x s p
    here a b =
        subst (λ (t : ℕ). g t p ≡ upd2 f r i x t p) a
        (subst (λ (t : ℕ). g r t ≡ upd2 f r i x r t) b (h ∙ sym (upd2-same f r i x)))

    go : (upd2 f r i x s p ≡ f s p) ⊎ ((r ≡ s) × (i ≡ p) × (upd2 f r i x s p ≡ x)) → Dec (r ≡ s) → Dec (i ≡ p) → g s p ≡ upd2 f r i x s p
    go (inr y) _ _ = here y.0 y.1
    go (inl e) (no d) _ = k s p (λ z. d z.0) ∙ sym e
    go (inl e) (yes a) (no d) = k s p (λ z. d z.1) ∙ sym e
    go (inl e) (yes a) (yes b) = here a b
