-- A table after its front was written to.
use Rattle.std.proofs.Common.{◌≡◌, ℕ, ◌+◌, ◌-◌, ◌<◌, ◌≤◌, List, ◌++◌, length, get_or, drop, ap, ◌∙◌, arith, length-append}
use Rattle.std.proofs.lemmas.List.{get_or_append_left, get_or-append_right, get_or-drop}
use Rattle.arcs.specs.Index.{Indexed}

module _ {A : Type 0} (n : ℕ) (xs ys : List A) (size : length ys ≡ n) (d : A) where
  pub front_below : (p : ℕ) → p < n → get_or (ys ++ drop n xs) p d ≡ get_or ys p d
  front_below p h = get_or_append_left ys (drop n xs) d p (omega arith)

  pub front_beyond : (k : ℕ) → n ≤ k → get_or (ys ++ drop n xs) k d ≡ get_or xs k d
  front_beyond k h =
      let e : n + (k - n) ≡ k = omega arith in
      get_or-append_right ys (drop n xs) n k d size h ∙ get_or-drop n xs (k - n) d ∙ ap (λ z. get_or xs z d) e

-- an index in the front of a table is one in the table
pub front_indexed : (end : ℕ → ℕ) (m n : ℕ) (xs ys order : List ℕ) → length ys ≡ n → Indexed end m n ys order → Indexed end m n (ys ++ drop n xs) order
front_indexed end m n xs ys order size x = record {
  inside = x.inside;
  places = omega (arith, length-append ys (drop n xs));
  arcs = x.arcs;
  ends_right = λ p h. front_below n xs ys size 0 p h ∙ x.ends_right p h;
  order_right = x.order_right;
}
