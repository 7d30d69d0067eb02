-- The bytes of a frame, as the code takes them apart.
use Rattle.std.proofs.Common.{◌≡◌, ℕ, zero, suc, ◌+◌, ◌<◌, ◌≤◌, List, [], ◌∷◌, ◌++◌, map, length, get_or, take, drop, Some, None, Option, Result, sym, refl, ap, ◌∙◌, add-zero, arith, length-drop}
use Rattle.std.specs.List.{range_with_len}
use Rattle.std.specs.Option.{option_map, ok_or}
use Rattle.std.proofs.lemmas.List.{append-nil, drop_all, drop_more}
use Rattle.std.proofs.lemmas.Bool.{le-leb}
use Rattle.schedule.specs.declared.refusal.Refusal.{Refusal}
use Rattle.frames.specs.Choices.{arbiter_of, route_of, payload_of}
use Rattle.frames.specs.Frames.{plan_of, sizes_of, told}
use Rattle.frames.specs.declared.choices.ArbiterKind.{ArbiterKind}
use Rattle.frames.specs.declared.choices.RouteKind.{RouteKind}
use Rattle.frames.specs.declared.choices.PayloadKind.{PayloadKind}

-- a list from a place on, by its elements
pub listed :
    (xs : List ℕ) (i n : ℕ) → i + n ≤ length xs → map (λ k. get_or xs k 0) (range_with_len i n) ++ drop (i + n) xs ≡ drop i xs
listed xs i zero h = rw add-zero
listed xs i (suc n) h =
    let there : i < length xs = omega arith in
    let next : i + suc n ≡ (i + 1) + n = omega arith in
    let more : (i + 1) + n ≤ length xs = omega arith in
    rw (next, drop_more xs i 0 there) (ap (λ (ys : List ℕ). get_or xs i 0 ∷ ys) (listed xs (i + 1) n more))

-- the same, up to the list's end
pub listed_all : (xs : List ℕ) (i n : ℕ) → length xs ≡ i + n → map (λ k. get_or xs k 0) (range_with_len i n) ≡ drop i xs
listed_all xs i n h =
    let places = map (λ k. get_or xs k 0) (range_with_len i n) in
    let past : length xs ≤ i + n = omega arith in
    sym (append-nil places) ∙ (ap (λ (ys : List ℕ). places ++ ys) (sym (drop_all (i + n) xs past)) ∙ listed xs i n (omega arith))

pub plan_made :
    (fields rest slots offsets : List ℕ) (arbiter : ArbiterKind) (route : RouteKind) (payload : PayloadKind)
    → rest ≡ drop 9 fields → 9 ≤ length fields
    → (get_or fields 8 0 ≤ length rest) × (slots ≡ take (get_or fields 8 0) rest) × (offsets ≡ drop (get_or fields 8 0) rest)
    → Some arbiter ≡ arbiter_of (get_or fields 5 0) → Some route ≡ route_of (get_or fields 6 0) → Some payload ≡ payload_of (get_or fields 7 0)
    → Some (record {
      plan = record { sizes = sizes_of fields; arbiter = arbiter; route = route; payload = payload; slots = slots };
      offsets = offsets;
    })
    ≡ plan_of fields
plan_made fields rest slots offsets arbiter route payload e long split ea er ep =
    let room : 9 + get_or fields 8 0 ≤ length fields = omega (arith, ap length e, length-drop 9 fields) in
    rw (le-leb (9 + get_or fields 8 0) (length fields) room, ← ea, ← er, ← ep, split.1, split.2, e)

told_okOr : {A B : Type 0} (value : A → B) (o : Option A) (e : Refusal) → told value (ok_or o e) ≡ ok_or (option_map value o) e
told_okOr value None e = refl
told_okOr value (Some a) e = refl

-- the values of an answer are those of the option that it was made from
pub told_of :
    {A B : Type 0} (value : A → B) (o : Option A) (v : Option B) (e : Refusal) (r : Result A Refusal)
    → r ≡ ok_or o e → option_map value o ≡ v → told value r ≡ ok_or v e
told_of value o v e r er ev = rw (er, ← ev) (told_okOr value o e)

-- the bytes behind the first, and the first
pub parted : (bytes fields : List ℕ) (kind : ℕ) → 1 ≤ length bytes → fields ≡ drop 1 bytes → get_or bytes 0 0 ≡ kind → bytes ≡ kind ∷ fields
parted [] fields kind h e k = absurd (omega arith)
parted (b ∷ bs) fields kind h e k = λ i. k i ∷ sym e i
