-- Lists in arrays: one more entry, and the entries read back.
use Rattle.std.proofs.Common.{◌≡◌, ℕ, ◌-◌, List, ◌++◌, length, take, drop, replicate, sym, zero, suc, ◌<◌, ◌≤◌, [], ◌∷◌, set, refl, ap, ◌∙◌, arith, length-append}
use Rattle.std.proofs.lemmas.List.{take_at, drop-replicate, set_at, append_assoc, length_push}
use Rattle.schedule.specs.Timetable.{padded}
use lib.ListN.{length-replicate}

pub replicate_some : (n : ℕ) → 0 < n → replicate {A = ℕ} n 0 ≡ 0 ∷ replicate (n - 1) 0
replicate_some zero l = absurd (omega arith)
replicate_some (suc n) l = let e : suc n - 1 ≡ n = omega arith in rw e

pub padded_more : (n : ℕ) (xs : List ℕ) (x : ℕ) → length xs < n → set (padded n xs) (length xs) x ≡ padded n (xs ++ x ∷ [])
padded_more n xs x l =
    let k : n - length xs - 1 ≡ n - length (xs ++ x ∷ []) = omega (arith, length_push xs x) in
    rw (replicate_some (n - length xs) (omega arith))
    (set_at xs 0 (replicate (n - length xs - 1) 0) x (length xs) refl
    ∙ (sym (append_assoc xs (x ∷ []) (replicate (n - length xs - 1) 0)) ∙ ap (λ m. (xs ++ x ∷ []) ++ replicate m 0) k))

pub length_padded : (n : ℕ) (xs : List ℕ) → length xs ≤ n → length (padded n xs) ≡ n
length_padded n xs l = simp (length-append, length-replicate) (omega arith)

pub take_padded : (n : ℕ) (xs : List ℕ) (m : ℕ) → m ≡ length xs → take m (padded n xs) ≡ xs
take_padded n xs m e = take_at xs (replicate (n - length xs) 0) m (sym e)

-- one turn of a loop that fills an array from the front
pub filled_more : (n i x : ℕ) (array xs : List ℕ) → array ≡ padded n xs → length xs ≡ i → i < n → set array i x ≡ padded n (xs ++ x ∷ [])
filled_more n i x array xs e f l =
    ap (λ a. set a i x) e ∙ (ap (λ k. set (padded n xs) k x) (sym f) ∙ padded_more n xs x (omega arith))

-- an array of 0 whose front is filled
pub filled_front : (n m : ℕ) (items xs : List ℕ) → m ≡ length xs → items ≡ xs → items ++ drop m (replicate n 0) ≡ padded n xs
filled_front n m items xs e f = rw (drop-replicate {X = ℕ} m n 0, e, f)
