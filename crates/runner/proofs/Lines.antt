-- Lines appended one after another, and the lines of delivery tables.
use Rattle.std.proofs.Common.{◌≡◌, ℕ, zero, suc, ◌+◌, ◌<◌, ◌≤◌, true, false, cond, eqb, List, [], ◌∷◌, ◌++◌, length, get_or, take, drop, is_ok, IfOk, Ok, Err, Result, sym, refl, ap, ◌∙◌, append_assoc, le_of_suc-le-suc, not-suc-le-zero, add-one, arith, length-take, drop-cons, get_or-take}
use Rattle.std.specs.List.{range_with_len, flat_map, zip}
use Rattle.std.proofs.lemmas.List.{append-nil, drop_all}
use Rattle.frames.specs.Lines.{LineText}
use Rattle.machine.specs.declared.tables.Delivery.{Delivery}
use Rattle.machine.specs.Moves.{edit, payload_beside, record_of}
use Rattle.machine.specs.Packets.{Packet}
use Rattle.frames.specs.Payloads.{Form}
use Rattle.runner.specs.Printed.{framed_line, printed_from}
use Rattle.runner.specs.Running.{Running}
use Rattle.runner.specs.Steps.{behind, delivery_line, left}
use Rattle.runner.specs.Told.{table_line, table_lines}
use Rattle.frames.specs.Hex.{hex_line}
use Rattle.frames.specs.Output.{delivery_bytes}

pub written : {X E : Type 0} (r : Result X E) (before after line : List ℕ) → after ≡ before ++ cond (is_ok r) line []
    → IfOk r (λ _. after ≡ before ++ line)
written (Ok x) before after line e = e
written (Err x) before after line e = tt

module _ {P : Type 0} (form : Form P) (cycle : ℕ) where
  pub line_on : (router : ℕ) (x : Delivery) (p : P) (frame bytes : List ℕ) → eqb x.mark 1 ≡ true
      → frame ≡ delivery_bytes cycle router x.domain x.source bytes → bytes ≡ form.bytes p → hex_line frame ≡ table_line form cycle router x p
  unfolding table_line
  line_on router x p frame bytes on e f = rw (on, e, f) refl

  pub line_off : (router : ℕ) (x : Delivery) (p : P) (before : List ℕ) → eqb x.mark 1 ≡ false
      → before ≡ before ++ table_line form cycle router x p
  unfolding table_line
  line_off router x p before off = rw off (sym (append-nil before))

  -- the lines from a router on: its own, and those from the next one on
  lines_at : (router : ℕ) (ds : List Delivery) (ps : List P) (i : ℕ) (d : Delivery) (p : P) → i < length ds → i < length ps
      → table_lines form cycle router (drop i ds) (drop i ps)
      ≡ table_line form cycle router (get_or ds i d) (get_or ps i p) ++ table_lines form cycle (router + 1) (drop (suc i) ds) (drop (suc i) ps)
  unfolding table_lines
  lines_at router ds ps i d p h k = rw (drop-cons ds i d h, drop-cons ps i p k) refl

  pub lines_more : (ds : List Delivery) (ps : List P) (n i : ℕ) (d : Delivery) (p : P) (out out' all : List ℕ)
      → i < n → n ≤ length ds → n ≤ length ps → p ≡ get_or ps i p
      → out' ≡ out ++ table_line form cycle i (get_or ds i d) p
      → out ++ table_lines form cycle i (drop i (take n ds)) (drop i (take n ps)) ≡ all
      → out' ++ table_lines form cycle (i + 1) (drop (i + 1) (take n ds)) (drop (i + 1) (take n ps)) ≡ all
  lines_more ds ps n i d p out out' all h hd hp e w inv =
      let ld : i < length (take n ds) = simp length-take (omega arith) in
      let lp : i < length (take n ps) = simp length-take (omega arith) in
      let at = lines_at i (take n ds) (take n ps) i d p ld lp in
      let gd : get_or (take n ds) i d ≡ get_or ds i d = get_or-take n ds i d h in
      let gp : get_or (take n ps) i p ≡ p = get_or-take n ps i p h ∙ sym e in
      let rest = table_lines form cycle (i + 1) (drop (suc i) (take n ds)) (drop (suc i) (take n ps)) in
      let line = table_line form cycle i (get_or ds i d) p in
      let at' : table_lines form cycle i (drop i (take n ds)) (drop i (take n ps)) ≡ line ++ rest = at ∙ (λ j. table_line form cycle i (gd j) (gp j) ++ rest) in
      let step : out' ++ rest ≡ all =
      ap (λ (o : List ℕ). o ++ rest) w ∙ append_assoc out line rest ∙ ap (λ (l : List ℕ). out ++ l) (sym at') ∙ inv in
      ap (λ (k : ℕ). out' ++ table_lines form cycle (i + 1) (drop k (take n ds)) (drop k (take n ps))) (add-one i) ∙ step

  pub lines_end : (ds : List Delivery) (ps : List P) (n i : ℕ) (out all : List ℕ) → n ≤ i
      → out ++ table_lines form cycle i (drop i (take n ds)) (drop i (take n ps)) ≡ all → out ≡ all
  unfolding table_lines
  lines_end ds ps n i out all h inv =
      let short : length (take n ds) ≤ i = simp length-take (omega arith) in
      let none : drop i (take n ds) ≡ [] = drop_all i (take n ds) short in
      sym (append-nil out) ∙ ap (λ (l : List Delivery). out ++ table_lines form cycle i l (drop i (take n ps))) (sym none) ∙ inv

  -- the line of an entry of the delivery tables: a router, its record and its payload
  abbrev pub entry_line : ℕ × (Delivery × P) → List ℕ
  entry_line e = table_line form cycle e.0 e.1.0 e.1.1

  pub entry_lines : (a n : ℕ) (ds : List Delivery) (ps : List P)
      → flat_map entry_line (zip (range_with_len a n) (zip ds ps)) ≡ table_lines form cycle a (take n ds) (take n ps)
  unfolding table_lines
  entry_lines a zero ds ps = refl
  entry_lines a (suc n) [] ps = refl
  entry_lines a (suc n) (d ∷ ds) [] = refl
  entry_lines a (suc n) (d ∷ ds) (p ∷ ps) = ap (λ (l : List ℕ). table_line form cycle a d p ++ l) (entry_lines (a + 1) n ds ps)

  -- a record and the payload beside it tell the packet that was handed over
  told_line : (router domain : ℕ) (xs : List (Packet P)) (old : P)
      → table_line form cycle router (record_of domain xs) (payload_beside xs old) ≡ delivery_line form cycle router domain xs
  unfolding table_line delivery_line record_of payload_beside
  told_line router domain [] old = refl
  told_line router domain (x ∷ xs) old = refl

  pub told_lines : (owner : ℕ → ℕ) (handed : ℕ → List (Packet P)) (a n : ℕ) (ds : List Delivery) (ps : List P) → n ≤ length ds → n ≤ length ps
      → table_lines form cycle a (take n (edit a n (λ router _. record_of (owner router) (handed router)) ds))
      (take n (edit a n (λ router x. payload_beside (handed router) x) ps))
      ≡ flat_map (λ router. delivery_line form cycle router (owner router) (handed router)) (range_with_len a n)
  unfolding table_lines edit
  told_lines owner handed a zero ds ps hd hp = refl
  told_lines owner handed a (suc n) [] ps hd hp = absurd (not-suc-le-zero hd)
  told_lines owner handed a (suc n) (d ∷ ds) [] hd hp = absurd (not-suc-le-zero hp)
  told_lines owner handed a (suc n) (d ∷ ds) (p ∷ ps) hd hp =
      λ i. told_line a (owner a) (handed a) p i ++ told_lines owner handed (a + 1) n ds ps (le_of_suc-le-suc hd) (le_of_suc-le-suc hp) i

module _ (out all : List ℕ) (s : Running) (lines : List LineText) where
  -- a line is printed, and those behind it are yet to be
  pub line_done : (out' : List ℕ) (line : LineText) (rest : List LineText) (s' : Running) → lines ≡ line ∷ rest
      → left s' out' ≡ behind out (framed_line line s) → out ++ printed_from s lines ≡ all → out' ++ printed_from s' rest ≡ all
  unfolding printed_from
  line_done out' line rest s' e f inv =
      let done = framed_line line s in
      (λ i. (f i).printed ++ printed_from (f i).state rest)
      ∙ append_assoc out done.printed (printed_from done.state rest)
      ∙ ap (λ (ls : List LineText). out ++ printed_from s ls) (sym e) ∙ inv

  pub lines_done : lines ≡ [] → out ++ printed_from s lines ≡ all → out ≡ all
  unfolding printed_from
  lines_done e inv = sym (append-nil out) ∙ ap (λ (ls : List LineText). out ++ printed_from s ls) (sym e) ∙ inv
