-- A call written out as its line is read back, and what is read fits the list. Assumes nothing.
use Rattle.std.proofs.Common.{◌≡◌, ℕ, ◌≤◌, min, eqb, List, [], ◌∷◌, ◌++◌, length, All, IfOk, Some, None, Ok, decimal, Option, refl, ap, ◌∙◌, append-nil, arith}
use Rattle.std.specs.Option.{option_and_then}
use Rattle.std.proofs.lemmas.Bool.{cond_both, cond-false, le-ltb}
use Rattle.std.proofs.lemmas.Bool.Decides.{nat_tests}
use Rattle.std.proofs.lemmas.List.Elements.{All-nil, All-cons, All-head, All-tail}
use Rattle.terms.specs.Amounts.{far}
use Rattle.terms.specs.declared.call.Call.TheVariants.{Begin, Set, Move, Stretch, Search, Route, Sum}
use Rattle.text.specs.Pieces.{fields_of}
use Rattle.text.proofs.Back.{field_back, last_field_back, decimal_without}
use Rattle.text.proofs.Digits.{number_back}
use Rattle.callline.specs.CallLines.{Typed, and_these, numbers_in, form_of, sum_of, call_of, call_in, answer_of, Within}
use Rattle.callline.specs.WrittenOut.{spaced, line_of, Typable}

abbrev Small : ℕ → Type 0
Small n = n ≤ far

spaced_numbers : (n : ℕ) (ns : List ℕ) → n ≤ far → All Small ns → numbers_in (fields_of (decimal n ++ spaced ns)) ≡ Some (n ∷ ns)
spaced_numbers n [] h t =
    ap (λ bs. numbers_in (fields_of bs)) (append-nil (decimal n))
    ∙ ap numbers_in (last_field_back (decimal n) (decimal_without 32 n (omega arith) h))
    ∙ ap (λ r. and_these r (Some [])) (number_back n h)
spaced_numbers n (m ∷ ms) h t =
    ap numbers_in (field_back (decimal n) (decimal m ++ spaced ms) (decimal_without 32 n (omega arith) h))
    ∙ ap (λ r. and_these r (numbers_in (fields_of (decimal m ++ spaced ms)))) (number_back n h)
    ∙ ap (and_these (Ok n)) (spaced_numbers m ms (All-head Small m ms t) (All-tail Small m ms t))

pub line_back : (room : ℕ) (call : Typed) → Typable room call → call_in room (line_of call) ≡ Some call
unfolding call_in
line_back room (Begin here landing slack) t =
    ap (option_and_then (call_of room 98)) (spaced_numbers here (landing ∷ slack ∷ []) t.0 (All-cons Small landing (slack ∷ []) t.1 (All-cons Small slack [] t.2 (All-nil Small))))
line_back room (Set arc cost) t =
    ap (option_and_then (call_of room 99)) (spaced_numbers arc (cost ∷ []) t.0 (All-cons Small cost [] t.1 (All-nil Small)))
line_back room (Move place) t = ap (option_and_then (call_of room 104)) (spaced_numbers place [] t (All-nil Small))
line_back room (Stretch slack) t = ap (option_and_then (call_of room 115)) (spaced_numbers slack [] t (All-nil Small))
line_back room (Search turns) t =
    ap (option_and_then (call_of room 114)) (spaced_numbers turns [] (omega arith) (All-nil Small)) ∙ cond-false _ _ _ (le-ltb 65535 turns t)
line_back room Route t = refl
line_back room (Sum []) t = absurd (omega (arith, t.0))
line_back room (Sum (arc ∷ arcs)) t =
    ap (option_and_then (call_of room 116)) (spaced_numbers arc arcs (All-head Small arc arcs t.2) (All-tail Small arc arcs t.2)) ∙ sum_back (arc ∷ arcs) t.0 t.1
  where
    sum_back : (arcs : List ℕ) → 1 ≤ length arcs → length arcs ≤ min 256 room → sum_of room arcs ≡ Some (Sum arcs)
    sum_back arcs some few = grind (arith, nat_tests)

module _ (room : ℕ) where
  abbrev Fits : Option Typed → Type 0
  Fits call = IfOk (answer_of call) (Within room)

  form_within : (letter : ℕ) (ns : List ℕ) → Fits (form_of letter ns)
  form_within letter [] = tt
  form_within letter (n ∷ []) = grind arith
  form_within letter (n ∷ m ∷ []) = grind arith
  form_within letter (n ∷ m ∷ k ∷ []) = grind arith
  form_within letter (n ∷ m ∷ k ∷ j ∷ ns) = tt

  call_within : (letter : ℕ) (o : Option (List ℕ)) → Fits (option_and_then (call_of room letter) o)
  call_within letter None = tt
  call_within letter (Some ns) =
      cond_both (eqb letter 116) (sum_of room ns) (form_of letter ns) Fits (λ _. grind (arith, nat_tests)) (λ _. form_within letter ns)

  pub line_within : (line : List ℕ) → Fits (call_in room line)
  unfolding call_in
  line_within [] = tt
  line_within (letter ∷ []) = cond_both (eqb letter 112) (Some Route) None Fits (λ _. tt) (λ _. tt)
  line_within (letter ∷ next ∷ rest) =
      cond_both (eqb next 32) (option_and_then (call_of room letter) (numbers_in (fields_of rest))) None Fits (λ _. call_within letter (numbers_in (fields_of rest))) (λ _. tt)
