-- The sides that ask, by the port that each wants.
use Rattle.std.proofs.Common.{◌≡◌, ℕ, ◌+◌, ◌*◌, ◌%◌, ◌^◌, ◌<◌, ◌≤◌, Bool, true, false, cond, ◌&&◌, eqb, ltb, leb, get_or, Some, None, Option, sym, refl, ap, ◌∙◌, ⊎_elim, add-zero, arith, pow_mono}
use Rattle.std.proofs.lemmas.Nat.{pow_below}
use Rattle.std.proofs.lemmas.Bool.{eq-eqb, ne_eqb, cases_eq, cond_both, lt-ltb, le-ltb, cases_lt}
use Rattle.mesh.specs.declared.asking.Asked.{Asked}
use Rattle.mesh.specs.Asked.{asked}
use Rattle.mesh.specs.Heads.{Outset, asks, wanted, head, head_side, no_queue, mask}
use Rattle.mesh.proofs.Masks.{mask_more, mask_none, mask_lt}

-- whether a port is the one that is wanted
abbrev pub wants : Option ℕ → ℕ → Bool
wants None p = false
wants (Some w) p = eqb w p

by_tests : (a b : Bool) (s p : ℕ) → (a && (b && eqb s p)) ≡ wants (cond (a && b) (Some s) None) p
by_tests true true s p = refl
by_tests true false s p = refl
by_tests false b s p = refl

pub asks_wanted : (v : Outset) (r q p : ℕ) → asks v r q p ≡ wants (wanted v r q) p
unfolding asks
asks_wanted v r q p = by_tests (ltb 0 (get_or v.queues q no_queue).count) (leb (head v q).ready v.cycle) (head_side v r q) p

marked : (x y : Bool) (a bit n s0 : ℕ) → n ≡ a + cond y bit 0 → cond (x && y) (cond x a s0 + bit) (cond x a s0) ≡ cond x n s0
marked true true a bit n s0 e = sym e
marked true false a bit n s0 e = omega arith
marked false y a bit n s0 e = refl

-- one side more
pub mark_more : (x y z : Asked) (d i bit : ℕ) (here : Bool) (f : ℕ → Bool)
    → y ≡ asked x.owner (cond (eqb x.owner d) (mask f i) x.sides) → f i ≡ here → bit ≡ 2 ^ i
    → z ≡ asked y.owner (cond (eqb y.owner d && here) (y.sides + bit) y.sides)
    → z ≡ asked x.owner (cond (eqb x.owner d) (mask f (i + 1)) x.sides)
mark_more x y z d i bit here f is t b e =
    e ∙ rw is (ap (asked x.owner) (marked (eqb x.owner d) here (mask f i) bit (mask f (i + 1)) x.sides
    (mask_more f i ∙ rw (t, b) refl)))

-- the bit of a side
pub bit_is : (i : ℕ) → i < 5 → (1 * 2 ^ i % 256 ≡ 2 ^ i) × (2 ^ i < 32)
bit_is i h =
    let low : 2 ^ i < 2 ^ 5 = pow_below i 5 h in
    (omega arith, omega arith)

-- before any side asks
pub mark_none : (x : Asked) (d : ℕ) (f : ℕ → Bool) → (x.owner ≡ d → x.sides ≡ 0) → x ≡ asked x.owner (cond (eqb x.owner d) (mask f 0) x.sides)
mark_none x d f none = ⊎_elim
    (λ (e : x.owner ≡ d). rw (eq-eqb x.owner d e) (ap (asked x.owner) (none e ∙ sym (mask_none f))))
    (λ (n : x.owner ≡ d → ⊥). rw (ne_eqb x.owner d n) refl)
    (cases_eq x.owner d)

-- a side that does not ask
pub mark_same : (x y : Asked) (d i : ℕ) (f : ℕ → Bool) → y ≡ asked x.owner (cond (eqb x.owner d) (mask f i) x.sides) → f i ≡ false
    → y ≡ asked x.owner (cond (eqb x.owner d) (mask f (i + 1)) x.sides)
mark_same x y d i f is t =
    let same : mask f i ≡ mask f (i + 1) = sym (mask_more f i ∙ rw t (add-zero _)) in
    is ∙ ap (λ n. asked x.owner (cond (eqb x.owner d) n x.sides)) same

-- the sets are small
pub mark_small : (x : Bool) (f : ℕ → Bool) (i s0 : ℕ) → i ≤ 5 → s0 < 32 → cond x (mask f i) s0 < 32
mark_small x f i s0 l h =
    let m = mask_lt f i in
    let P : ℕ → Type 0 = λ n. n < 32 in
    let e : 2 ^ i ≤ 2 ^ 5 = pow_mono l in
    cond_both x (mask f i) s0 P (λ _. omega arith) (λ _. h)

-- a domain that is nobody's
pub range_same : (A : ℕ → ℕ) (o d : ℕ) → (o ≡ d → ⊥) → cond (ltb o d) (A o) 0 ≡ cond (ltb o (d + 1)) (A o) 0
range_same A o d n = ⊎_elim
    (λ (l : o < d). let t : o < d + 1 = omega arith in rw (lt-ltb o d l, lt-ltb o (d + 1) t) refl)
    (λ (l : d ≤ o). let t : d + 1 ≤ o = omega arith in rw (le-ltb o d l, le-ltb o (d + 1) t) refl)
    (cases_lt o d)

-- one domain more
pub range_more : (A : ℕ → ℕ) (o d s r : ℕ) → s ≡ cond (ltb o d) (A o) 0 → r ≡ cond (eqb o d) (A d) s → r ≡ cond (ltb o (d + 1)) (A o) 0
range_more A o d s r is e = ⊎_elim
    (λ (h : o ≡ d). let t : o < d + 1 = omega arith in rw (lt-ltb o (d + 1) t) (e ∙ rw (eq-eqb o d h) (ap A (sym h))))
    (λ (n : o ≡ d → ⊥). e ∙ rw (ne_eqb o d n) (is ∙ range_same A o d n))
    (cases_eq o d)
