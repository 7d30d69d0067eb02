-- What holds of each of five ports.
use Rattle.std.proofs.Common.{◌≡◌, ℕ, ◌<◌, Bool, true, false, sym, refl, subst, ⊎_elim, arith, ◌||◌, eqb, List, get_or}
use Rattle.std.proofs.lemmas.Bool.{cases_eq, or_parts, eqb-false}

pub at_five : (P : ℕ → Type 0) → P 0 → P 1 → P 2 → P 3 → P 4 → (c : ℕ) → c < 5 → P c
at_five P a b c d e i h =
    ⊎_elim (λ (s : i ≡ 0). subst P (sym s) a) (λ n0.
    ⊎_elim (λ (s : i ≡ 1). subst P (sym s) b) (λ n1.
    ⊎_elim (λ (s : i ≡ 2). subst P (sym s) c) (λ n2.
    ⊎_elim (λ (s : i ≡ 3). subst P (sym s) d) (λ n3. let s : i ≡ 4 = omega arith in subst P (sym s) e)
    (cases_eq i 3)) (cases_eq i 2)) (cases_eq i 1)) (cases_eq i 0)

pub bool_same : (a b : Bool) → (a ≡ true → b ≡ true) → (b ≡ true → a ≡ true) → a ≡ b
bool_same true b f g = sym (f refl)
bool_same false true f g = g refl
bool_same false false f g = refl

-- whether one of five ports, told their owners, belongs to a domain
abbrev pub owned_by : List ℕ → ℕ → Bool
owned_by owners d =
    eqb (get_or owners 0 0) d
    || (eqb (get_or owners 1 0) d || (eqb (get_or owners 2 0) d || (eqb (get_or owners 3 0) d || eqb (get_or owners 4 0) d)))

-- a domain to which no port belongs
pub unowned : (owners : List ℕ) (d : ℕ) → owned_by owners d ≡ false → (p : ℕ) → p < 5 → get_or owners p 0 ≡ d → ⊥
unowned owners d e =
    let a = or_parts _ _ e in
    let b = or_parts _ _ a.1 in
    let c = or_parts _ _ b.1 in
    let f = or_parts _ _ c.1 in
    let P : ℕ → Type 0 = λ p. get_or owners p 0 ≡ d → ⊥ in
    at_five P (eqb-false _ _ a.0) (eqb-false _ _ b.0) (eqb-false _ _ c.0) (eqb-false _ _ f.0) (eqb-false _ _ f.1)
