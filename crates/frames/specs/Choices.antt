-- The numbers by which a plan frame names its arbiter, its route rule and its payload kind, and the names by which they are printed.
use Rattle.std.specs.Prelude.{ℕ, List, [], ◌∷◌, ◌++◌, Option, Result, codes, decimal}
use Rattle.std.specs.Option.{ok_or}
use Rattle.frames.specs.Numbered.{named}
use Rattle.frames.specs.declared.choices.ArbiterKind.{ArbiterKind}
use Rattle.frames.specs.declared.choices.ArbiterKind.TheVariants.{Fixed, Rotating, OrderList}
use Rattle.frames.specs.declared.choices.RouteKind.{RouteKind}
use Rattle.frames.specs.declared.choices.RouteKind.TheVariants.{ColumnsFirst, RowsFirst}
use Rattle.frames.specs.declared.choices.PayloadKind.{PayloadKind}
use Rattle.frames.specs.declared.choices.PayloadKind.TheVariants.{Word, Record}
use Rattle.frames.specs.declared.choices.Choices.{Choices}
use Rattle.frames.specs.declared.choices.UnknownKind.{UnknownKind}

abbrev pub arbiter_number : ArbiterKind → ℕ
arbiter_number Fixed = 0
arbiter_number Rotating = 1
arbiter_number OrderList = 2

abbrev pub route_number : RouteKind → ℕ
route_number ColumnsFirst = 0
route_number RowsFirst = 1

abbrev pub payload_number : PayloadKind → ℕ
payload_number Word = 0
payload_number Record = 1

abbrev pub arbiter_of : ℕ → Option ArbiterKind
arbiter_of = named arbiter_number (Fixed ∷ Rotating ∷ OrderList ∷ [])

abbrev pub route_of : ℕ → Option RouteKind
route_of = named route_number (ColumnsFirst ∷ RowsFirst ∷ [])

abbrev pub payload_of : ℕ → Option PayloadKind
payload_of = named payload_number (Word ∷ Record ∷ [])

-- the kind that has a number, or the number as one that no such kind has
abbrev pub arbiter_told : ℕ → Result ArbiterKind UnknownKind
arbiter_told number = ok_or (arbiter_of number) (record { 0 = number })

abbrev pub route_told : ℕ → Result RouteKind UnknownKind
route_told number = ok_or (route_of number) (record { 0 = number })

abbrev pub payload_told : ℕ → Result PayloadKind UnknownKind
payload_told number = ok_or (payload_of number) (record { 0 = number })

abbrev pub arbiter_name : ArbiterKind → List ℕ
arbiter_name Fixed = codes "fixed"
arbiter_name Rotating = codes "rotating"
arbiter_name OrderList = codes "order list"

abbrev pub route_name : RouteKind → List ℕ
route_name ColumnsFirst = codes "columns first"
route_name RowsFirst = codes "rows first"

abbrev pub payload_name : PayloadKind → List ℕ
payload_name Word = codes "word"
payload_name Record = codes "record"

abbrev pub choices_text : Choices → List ℕ
choices_text c =
    codes "arbiter " ++ (arbiter_name c.arbiter ++ (codes ", route " ++ (route_name c.route ++ (codes ", payload " ++ payload_name c.payload))))

abbrev pub unknown_text : UnknownKind → List ℕ
unknown_text unknown = codes "no kind has number " ++ decimal unknown.0
