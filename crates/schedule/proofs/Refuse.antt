-- A refusal for the first number that fails: where it stands, that there is none, and what none tells.
use Rattle.std.proofs.Common.{◌≡◌, ℕ, ◌<◌, ◌/◌, ◌%◌, leb, Bool, true, false, cond, ltb, List, length, get_or, Some, None, refl, ap, arith}
use Rattle.std.specs.List.{position, position_or_len}
use Rattle.std.specs.Option.{option_map}
use Rattle.std.proofs.lemmas.Bool.{lt-ltb, le-ltb, ltb-false}
use Rattle.schedule.specs.declared.refusal.Refusal.{Refusal}
use Rattle.schedule.specs.declared.refusal.Refusal.TheVariants.{UnknownDomain, OffsetTooLarge}
use Rattle.schedule.specs.declared.sizes.Sizes.{Sizes}
use Rattle.schedule.specs.Search.{first}
use Rattle.schedule.specs.Verdict.{refuse_first, slot_check, offset_check}
use Rattle.schedule.proofs.First.{first_none, first_at, first_tells, first_place}

module _ (fails : ℕ → Bool) (n : ℕ) (refusal : ℕ → Refusal) where
  pub refused_at : (i : ℕ) → i < n → ((k : ℕ) → k < i → fails k ≡ false) → fails i ≡ true
      → refuse_first fails n refusal ≡ Some (refusal i)
  unfolding refuse_first
  refused_at i l before here =
      let e : first fails n ≡ i = first_at fails n i l before here in
      let t : ltb (first fails n) n ≡ true = lt-ltb (first fails n) n (omega arith) in
      rw t (ap (λ k. Some (refusal k)) e)

  pub refused_none : ((k : ℕ) → k < n → fails k ≡ false) → refuse_first fails n refusal ≡ None
  unfolding refuse_first
  refused_none each =
      let e : first fails n ≡ n = first_none fails n each in
      let t : ltb (first fails n) n ≡ false = le-ltb (first fails n) n (omega arith) in
      rw t

  pub none_fails : refuse_first fails n refusal ≡ None → (k : ℕ) → k < n → fails k ≡ false
  unfolding refuse_first
  none_fails e k l = go (ltb (first fails n) n) refl
    where
      go : (b : Bool) → ltb (first fails n) n ≡ b → fails k ≡ false
      go true t = absurd (let f = rw t at e in cc)
      go false t = (first_tells fails n).1 k (omega (arith, ltb-false (first fails n) n t))

-- a refusal for the first place of a list whose entry fails
refused_place : (p : ℕ → Bool) (xs : List ℕ) (refusal : ℕ → Refusal)
    → refuse_first (λ k. p (get_or xs k 0)) (length xs) refusal ≡ option_map refusal (position p xs)
unfolding refuse_first
refused_place p xs refusal = rw (first_place p (λ k. get_or xs k 0) xs (λ k l. refl)) (go (ltb (position_or_len p xs) (length xs)))
  where
    go : (b : Bool) → cond b (Some (refusal (position_or_len p xs))) None ≡ option_map refusal (cond b (Some (position_or_len p xs)) None)
    go true = refl
    go false = refl

pub slots_refused : (sizes : Sizes) (slots : List ℕ) → slot_check sizes slots ≡ option_map UnknownDomain (position (leb sizes.domains) slots)
unfolding slot_check
slots_refused sizes slots = refused_place (leb sizes.domains) slots UnknownDomain

pub offsets_refused : (period : ℕ) (offsets : List ℕ)
    → offset_check period offsets ≡ option_map (λ k. OffsetTooLarge (k / 5) (k % 5)) (position (leb period) offsets)
unfolding offset_check
offsets_refused period offsets = refused_place (leb period) offsets (λ k. OffsetTooLarge (k / 5) (k % 5))
