-- A frame and its bytes: each is found from the other.
use Rattle.std.proofs.Common.{◌≡◌, ℕ, suc, ◌+◌, ◌≤◌, Bool, true, false, cond, eqb, leb, ◌⊎◌, List, [], ◌∷◌, ◌++◌, length, get_or, take, drop, Some, None, Option, sym, refl, ap, ◌∙◌, subst, inl, inr, arith, length-append, length-drop}
use Rattle.std.proofs.lemmas.List.{append-nil, drop_at, length-take-le, take-append-drop, take_at}
use Rattle.std.proofs.lemmas.Bool.{eq-eqb, eqb-true, le-leb, leb-true}
use Rattle.schedule.specs.declared.sizes.Sizes.{Sizes}
use Rattle.frames.specs.Choices.{arbiter_number, arbiter_of, route_number, route_of, payload_number, payload_of}
use Rattle.frames.specs.Frames.{PlanValue, GivenValue, FrameValue, plan, inject, steps, plan_bytes, frame_bytes, given_bytes, chosen}
use Rattle.frames.specs.Frames.{plan_of, bare, injection_of, steps_of, decoded, given_of, Sound, OneFrame, OneGiven, sizes_of}
use Rattle.frames.specs.declared.choices.ArbiterKind.{ArbiterKind}
use Rattle.frames.specs.declared.choices.ArbiterKind.TheVariants.{Fixed, Rotating, OrderList}
use Rattle.frames.specs.declared.choices.RouteKind.{RouteKind}
use Rattle.frames.specs.declared.choices.RouteKind.TheVariants.{ColumnsFirst, RowsFirst}
use Rattle.frames.specs.declared.choices.PayloadKind.{PayloadKind}
use Rattle.frames.specs.declared.choices.PayloadKind.TheVariants.{Word, Record}
use Rattle.frames.proofs.Apart.{named_has}
use Rattle.frames.proofs.Fields.{listed, listed_all}

arbiter_back : (k : ArbiterKind) → arbiter_of (arbiter_number k) ≡ Some k
arbiter_back Fixed = refl
arbiter_back Rotating = refl
arbiter_back OrderList = refl

route_back : (k : RouteKind) → route_of (route_number k) ≡ Some k
route_back ColumnsFirst = refl
route_back RowsFirst = refl

payload_back : (k : PayloadKind) → payload_of (payload_number k) ≡ Some k
payload_back Word = refl
payload_back Record = refl

arbiter_has : (n : ℕ) (k : ArbiterKind) → arbiter_of n ≡ Some k → arbiter_number k ≡ n
arbiter_has n k = named_has arbiter_number (Fixed ∷ Rotating ∷ OrderList ∷ []) k n

route_has : (n : ℕ) (k : RouteKind) → route_of n ≡ Some k → route_number k ≡ n
route_has n k = named_has route_number (ColumnsFirst ∷ RowsFirst ∷ []) k n

payload_has : (n : ℕ) (k : PayloadKind) → payload_of n ≡ Some k → payload_number k ≡ n
payload_has n k = named_has payload_number (Word ∷ Record ∷ []) k n

-- from a frame to its bytes and back

plan_back : (p : PlanValue) (offsets : List ℕ) → plan_of (plan_bytes p ++ offsets) ≡ Some (record { plan = p; offsets = offsets })
plan_back p offsets =
    let slots = p.slots in
    let room : 9 + length slots ≤ length (plan_bytes p ++ offsets) = omega (arith, length-append slots offsets) in
    rw (
      le-leb (9 + length slots) (length (plan_bytes p ++ offsets)) room,
      arbiter_back p.arbiter,
      route_back p.route,
      payload_back p.payload,
      take_at slots offsets (length slots) refl,
      drop_at slots offsets (length slots) refl,
    )

frame_back : (f : FrameValue) → Sound f → decoded (frame_bytes f) ≡ Some f
frame_back (plan p) h = ap (λ (bytes : List ℕ). bare (plan_of bytes)) (sym (append-nil (plan_bytes p))) ∙ ap bare (plan_back p [])
frame_back (inject router domain destination payload) h =
    let seven : suc (suc (suc (length payload))) ≡ 7 = omega arith in
    rw (eq-eqb (suc (suc (suc (length payload)))) 7 seven)
    (ap (λ (p : List ℕ). Some (inject router domain destination p)) (listed_all payload 0 4 h))
frame_back (steps count) h = refl

-- from bytes to a frame and back

kept : {A : Type 0} (b : Bool) (o : Option A) (f : A) → cond b o None ≡ Some f → (b ≡ true) × (o ≡ Some f)
kept true o f h = (refl, h)
kept false o f h = absurd (let z : ◌≡◌ {A = ℕ} 0 1 = cc in omega arith)

either : {A : Type 0} (b : Bool) (o other : Option A) (f : A) → cond b o other ≡ Some f → ((b ≡ true) × (o ≡ Some f)) ⊎ (other ≡ Some f)
either true o other f h = inl (refl, h)
either false o other f h = inr h

empty : (xs : List ℕ) → length xs ≡ 0 → xs ≡ []
empty [] h = refl
empty (x ∷ xs) h = absurd (omega arith)

abbrev spread : Sizes → ℕ → ℕ → ℕ → List ℕ → List ℕ → List ℕ
spread sizes a r p slots offsets =
    sizes.width ∷ sizes.height ∷ sizes.domains ∷ sizes.depth ∷ sizes.hop ∷ a ∷ r ∷ p ∷ length slots ∷ (slots ++ offsets)

chosen_right :
    (sizes : Sizes) (arbiter : Option ArbiterKind) (route : Option RouteKind) (payload : Option PayloadKind) (slots offsets : List ℕ)
    (g : GivenValue) (a r p : ℕ)
    → ((k : ArbiterKind) → arbiter ≡ Some k → arbiter_number k ≡ a) → ((k : RouteKind) → route ≡ Some k → route_number k ≡ r)
    → ((k : PayloadKind) → payload ≡ Some k → payload_number k ≡ p) → chosen sizes arbiter route payload slots offsets ≡ Some g
    → plan_bytes g.plan ++ g.offsets ≡ spread sizes a r p slots offsets
chosen_right sizes None route payload slots offsets g a r p ea er ep h = absurd (let z : ◌≡◌ {A = ℕ} 0 1 = cc in omega arith)
chosen_right sizes (Some x) None payload slots offsets g a r p ea er ep h = absurd (let z : ◌≡◌ {A = ℕ} 0 1 = cc in omega arith)
chosen_right sizes (Some x) (Some y) None slots offsets g a r p ea er ep h = absurd (let z : ◌≡◌ {A = ℕ} 0 1 = cc in omega arith)
chosen_right sizes (Some x) (Some y) (Some w) slots offsets g a r p ea er ep h =
    let made : GivenValue =
    record { plan = record { sizes = sizes; arbiter = x; route = y; payload = w; slots = slots }; offsets = offsets } in
    let this : made ≡ g = cc in
    subst (λ (v : GivenValue). plan_bytes v.plan ++ v.offsets ≡ spread sizes a r p slots offsets) this (rw (ea x refl, er y refl, ep w refl))

plan_right : (fields : List ℕ) (g : GivenValue) → plan_of fields ≡ Some g → plan_bytes g.plan ++ g.offsets ≡ fields
plan_right fields g h =
    let t = get_or fields 8 0 in
    let k = kept (leb (9 + t) (length fields)) _ g h in
    let room : 9 + t ≤ length fields = leb-true (9 + t) (length fields) k.0 in
    let enough : t ≤ length (drop 9 fields) = rw length-drop (omega arith) in
    let rest = drop 9 fields in
    let a = get_or fields 5 0 in
    let r = get_or fields 6 0 in
    let p = get_or fields 7 0 in
    let bytes : plan_bytes g.plan ++ g.offsets ≡ spread (sizes_of fields) a r p (take t rest) (drop t rest) =
    chosen_right (sizes_of fields) (arbiter_of a) (route_of r) (payload_of p) (take t rest) (drop t rest) g a r p
    (arbiter_has a) (route_has r) (payload_has p) k.1 in
    rw (bytes, length-take-le t rest enough, take-append-drop t rest) (listed fields 0 9 (omega arith))

-- a frame of this kind, with these fields
abbrev With : ℕ → List ℕ → FrameValue → Type 0
With kind fields f = Sound f × (frame_bytes f ≡ kind ∷ fields)

bare_right : (fields : List ℕ) (o : Option GivenValue) (f : FrameValue) → plan_of fields ≡ o → bare o ≡ Some f → With 1 fields f
bare_right fields None f e h = absurd (let z : ◌≡◌ {A = ℕ} 0 1 = cc in omega arith)
bare_right fields (Some g) f e h =
    let k = kept (eqb (length g.offsets) 0) (Some (plan g.plan)) f h in
    let none : g.offsets ≡ [] = empty g.offsets (eqb-true (length g.offsets) 0 k.0) in
    let this : plan g.plan ≡ f = (let i = k.1 in cc) in
    subst (With 1 fields) this (
      tt,
      ap (λ (bytes : List ℕ). 1 ∷ bytes)
          (sym (append-nil (plan_bytes g.plan)) ∙ (ap (λ (o : List ℕ). plan_bytes g.plan ++ o) (sym none) ∙ plan_right fields g e)),
    )

injection_right : (fields : List ℕ) (f : FrameValue) → injection_of fields ≡ Some f → With 2 fields f
injection_right fields f h =
    let k = kept (eqb (length fields) 7) _ f h in
    let seven : length fields ≡ 7 = eqb-true (length fields) 7 k.0 in
    let four = get_or fields 3 0 ∷ get_or fields 4 0 ∷ get_or fields 5 0 ∷ get_or fields 6 0 ∷ [] in
    let this : inject (get_or fields 0 0) (get_or fields 1 0) (get_or fields 2 0) four ≡ f = (let i = k.1 in cc) in
    subst (With 2 fields) this (refl, ap (λ (bytes : List ℕ). 2 ∷ bytes) (listed_all fields 0 7 seven))

steps_right : (fields : List ℕ) (f : FrameValue) → steps_of fields ≡ Some f → With 3 fields f
steps_right fields f h =
    let k = kept (eqb (length fields) 1) _ f h in
    let one : length fields ≡ 1 = eqb-true (length fields) 1 k.0 in
    let this : steps (get_or fields 0 0) ≡ f = (let i = k.1 in cc) in
    subst (With 3 fields) this (tt, ap (λ (bytes : List ℕ). 3 ∷ bytes) (listed_all fields 0 1 one))

as_kind : (kind n : ℕ) (fields : List ℕ) (f : FrameValue) → eqb kind n ≡ true → With n fields f → With kind fields f
as_kind kind n fields f e = subst (λ (m : ℕ). With m fields f) (sym (eqb-true kind n e))

frame_right : (bytes : List ℕ) (f : FrameValue) → decoded bytes ≡ Some f → Sound f × (frame_bytes f ≡ bytes)
frame_right [] f h = absurd (let z : ◌≡◌ {A = ℕ} 0 1 = cc in omega arith)
frame_right (kind ∷ fields) f h =
    elim (either (eqb kind 1) (bare (plan_of fields)) _ f h) [
      | inl one ↦ as_kind kind 1 fields f one.0 (bare_right fields (plan_of fields) f refl one.1)
      | inr more ↦
          elim (either (eqb kind 2) (injection_of fields) _ f more) [
            | inl two ↦ as_kind kind 2 fields f two.0 (injection_right fields f two.1)
            | inr last ↦
                (let three = kept (eqb kind 3) (steps_of fields) f last in
                as_kind kind 3 fields f three.0 (steps_right fields f three.1))
          ]
    ]

pub one_frame : OneFrame
one_frame f bytes =
    ((λ h. ap decoded (sym h.1) ∙ frame_back f h.0), frame_right bytes f)

given_right : (bytes : List ℕ) (g : GivenValue) → given_of bytes ≡ Some g → given_bytes g ≡ bytes
given_right [] g h = absurd (let z : ◌≡◌ {A = ℕ} 0 1 = cc in omega arith)
given_right (kind ∷ fields) g h =
    let k = kept (eqb kind 6) (plan_of fields) g h in
    let six : kind ≡ 6 = eqb-true kind 6 k.0 in
    rw six (ap (λ (bytes : List ℕ). 6 ∷ bytes) (plan_right fields g k.1))

pub one_given : OneGiven
one_given g bytes = ((λ e. ap given_of (sym e) ∙ plan_back g.plan g.offsets), given_right bytes g)
