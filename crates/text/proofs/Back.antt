-- Lines and fields that were written read back as they were. Assumes nothing.
use Rattle.std.proofs.Common.{◌≡◌, ◌≢◌, ℕ, ◌<◌, ◌≤◌, true, false, not, eqb, List, [], ◌∷◌, ◌++◌, length, All, Some, None, Option, MatchOption, unwrap_or, decimal, Bor, sym, refl, ap, ◌∙◌, arith}
use Rattle.std.specs.List.{list_all, onto_first}
use Rattle.std.specs.Option.{option_map}
use Rattle.std.proofs.lemmas.Fmt.{digits_decimal}
use Rattle.std.proofs.lemmas.List.Elements.{All-head, All-tail, All-weaker, All-from_get_or}
use Rattle.std.proofs.lemmas.List.Splits.{slice_split_at, slice_split_none}
use Rattle.std.proofs.lemmas.List.Sums.{AllPass-from_list_all}
use Rattle.std.proofs.lemmas.Str.Parse.{not_in_digits}
use Rattle.std.proofs.lemmas.Bool.{cond-false, ne_eqb, eqb-false, not-true}
use Rattle.terms.specs.Amounts.{far}
use Rattle.text.specs.Pieces.{lines_of, fields_of, fields_left}
use Rattle.text.proofs.Digits.{own}

-- no byte of these is the stop
abbrev pub Without : ℕ → List ℕ → Type 0
Without stop bs = All (λ b. b ≢ stop) bs

fails : (stop : ℕ) (bs : List ℕ) → Without stop bs → All (λ b. eqb b stop ≡ false) bs
fails stop bs w = All-weaker (λ b. b ≢ stop) (λ b. eqb b stop ≡ false) (λ b n. ne_eqb b stop n) bs w

-- a field and the space after it, and the last field of a line
pub field_back : (field rest : List ℕ) → Without 32 field → fields_of (field ++ 32 ∷ rest) ≡ field ∷ fields_of rest
field_back field rest w = slice_split_at (λ b. eqb b 32) field 32 rest (fails 32 field w) refl

pub last_field_back : (field : List ℕ) → Without 32 field → fields_of field ≡ field ∷ []
last_field_back field w = slice_split_none (λ b. eqb b 32) field (fails 32 field w)

module _ (b : ℕ) (bs : List ℕ) (w : Without 10 (b ∷ bs)) where
  rest_without : Without 10 bs
  rest_without = All-tail (λ x. x ≢ 10) b bs w

  no_end : (rest : List ℕ) → lines_of (b ∷ rest) ≡ onto_first b (lines_of rest)
  no_end rest = cond-false _ _ _ (ne_eqb b 10 (All-head (λ x. x ≢ 10) b bs w))

-- a line and the byte 10 after it, and a last line that has none
pub line_back : (line rest : List ℕ) → Without 10 line → lines_of (line ++ 10 ∷ rest) ≡ line ∷ lines_of rest
line_back [] rest w = refl
line_back (b ∷ line) rest w = no_end b line w (line ++ 10 ∷ rest) ∙ ap (onto_first b) (line_back line rest (rest_without b line w))

last_line_back : (b : ℕ) (line : List ℕ) → Without 10 (b ∷ line) → lines_of (b ∷ line) ≡ (b ∷ line) ∷ []
last_line_back b [] w = no_end b [] w []
last_line_back b (c ∷ line) w =
    no_end b (c ∷ line) w (c ∷ line) ∙ ap (onto_first b) (last_line_back c line (rest_without b (c ∷ line) w))

-- a line cut at its first space, and a text at the end of its first line
pub next_field : (line field : List ℕ) (rest : Option (Bor (List ℕ))) → Without 32 field → MatchOption rest (line ≡ field) (λ r. line ≡ field ++ 32 ∷ r.now) → fields_of line ≡ field ∷ fields_left (option_map (λ r. r.now) rest)
next_field line field None w e = ap fields_of e ∙ last_field_back field w
next_field line field (Some r) w e = ap fields_of e ∙ field_back field r.now w

pub next_line : (text line : List ℕ) (rest : Option (Bor (List ℕ))) (none : Bor (List ℕ)) → Without 10 line → MatchOption rest (text ≡ line) (λ r. text ≡ line ++ 10 ∷ r.now) → 0 < length text → none.now ≡ [] → lines_of text ≡ line ∷ lines_of (unwrap_or rest none).now
next_line text [] None none w e some n = absurd (omega (arith, ap length e))
next_line text (b ∷ line) None none w e some n =
    ap lines_of e ∙ last_line_back b line w ∙ ap (λ r. (b ∷ line) ∷ lines_of r) (sym n)
next_line text line (Some r) none w e some n = ap lines_of e ∙ line_back line r.now w

-- a number that was written has neither a space nor byte 10
pub decimal_without : (stop n : ℕ) → stop < 48 → n ≤ far → Without stop (decimal n)
decimal_without stop n h small =
    All-from_get_or (λ b. b ≢ stop) (decimal n) 0 (not_in_digits own (decimal n) stop (digits_decimal own n (omega arith)) (λ within. omega arith))

-- the same of a text that is written out, where the test computes
pub without_by_test : (stop : ℕ) (bs : List ℕ) → list_all (λ b. not (eqb b stop)) bs ≡ true → Without stop bs
without_by_test stop bs e =
    All-weaker (λ b. not (eqb b stop) ≡ true) (λ b. b ≢ stop) (λ b passes. eqb-false b stop (not-true (eqb b stop) passes)) bs (AllPass-from_list_all (λ b. not (eqb b stop)) bs e)
