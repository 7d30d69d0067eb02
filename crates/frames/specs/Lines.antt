-- The lines of a block of bytes.
use Rattle.std.specs.Prelude.{◌≡◌, ℕ, suc, ◌<◌, cond, List, [], ◌∷◌, ◌++◌, length, drop, Some, None, Option, MatchOption, ◌==◌, ◌≢◌}
use Rattle.std.specs.List.{flat_map, AllByRecursion}
use Rattle.frames.specs.declared.lines.Line.{Line}
use Rattle.frames.specs.declared.lines.Line.TheVariants.{Ended, Unended}
use Rattle.frames.specs.declared.lines.Lines.{Lines}

abbrev pub line_feed : ℕ
line_feed = 10

-- where the first line feed stands; the length of the block where there is none
abbrev pub feed_place : List ℕ → ℕ
feed_place [] = 0
feed_place (b ∷ bs) = cond (b == line_feed) 0 (suc (feed_place bs))

-- what follows the first line feed
abbrev pub after_line : List ℕ → List ℕ
after_line block = drop (suc (feed_place block)) block

-- the text of a line, and whether a line feed ended it
pub data LineText : Type 0 where
  ended : List ℕ → LineText
  unended : List ℕ → LineText

abbrev pub line_value : Line → LineText
line_value (Ended text) = ended text.now
line_value (Unended text) = unended text.now

-- what a reader has yet to hand out
abbrev pub unread : Lines → List ℕ
unread lines = lines.rest.now

-- the lines of a byte that is no line feed and of what follows it, by the lines of what follows
abbrev pub begun : ℕ → List LineText → List LineText
begun b [] = unended (b ∷ []) ∷ []
begun b (ended text ∷ lines) = ended (b ∷ text) ∷ lines
begun b (unended text ∷ lines) = unended (b ∷ text) ∷ lines

abbrev pub all_lines : List ℕ → List LineText
all_lines [] = []
all_lines (b ∷ bs) = cond (b == line_feed) (ended [] ∷ all_lines bs) (begun b (all_lines bs))

abbrev pub first : List LineText → Option LineText
first [] = None
first (line ∷ lines) = Some line

abbrev pub first_line : List ℕ → Option LineText
first_line block = first (all_lines block)

-- the lines that a reader has yet to hand out
abbrev pub lines_left : Lines → List LineText
lines_left lines = all_lines (unread lines)

-- a line as it stands in the block
abbrev pub line_bytes : LineText → List ℕ
line_bytes (ended text) = text ++ line_feed ∷ []
line_bytes (unended text) = text

-- no text holds a line feed; only the last line can be unended, and it is then not empty
abbrev pub Orderly : List LineText → Type 0
Orderly [] = Unit {0}
Orderly (ended text ∷ lines) = AllByRecursion (λ b. b ≢ line_feed) text × Orderly lines
Orderly (unended text ∷ lines) = AllByRecursion (λ b. b ≢ line_feed) text × (0 < length text) × (lines ≡ [])

-- the lines of a block are orderly and, put together, are the block; no other lines are
abbrev pub Whole : List ℕ → Type 0
Whole block =
    Orderly (all_lines block) × (flat_map line_bytes (all_lines block) ≡ block)
    × ((lines : List LineText) → Orderly lines → flat_map line_bytes lines ≡ block → lines ≡ all_lines block)

-- a reader comes by each line: the first is handed out, and the others are those of what is left
abbrev pub Walked : List ℕ → Type 0
Walked block = MatchOption (first_line block) (all_lines block ≡ []) (λ line. all_lines block ≡ line ∷ all_lines (after_line block))
