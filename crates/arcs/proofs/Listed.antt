-- The lists of an index of arcs.
use Rattle.std.proofs.Common.{◌≡◌, ℕ, zero, suc, ◌+◌, ◌-◌, ◌<◌, cond, ltb, List, [], length, get_or, drop, sym, refl, ap, ◌∙◌, inl, inr, arith, length-drop}
use Rattle.std.proofs.lemmas.List.{ext_get_or, get_or-drop, get_or-take, length-take-le}
use Rattle.std.proofs.lemmas.Bool.{cases_lt, cond-true, cond-false, le-ltb, lt-ltb}
use Rattle.std.specs.List.{slice_range}
use Rattle.ground.proofs.ArcsAt.{arcs_at-beyond, arcs_at-none}
use Rattle.ground.specs.Questions.{arcs_at}
use Rattle.arcs.specs.Index.{start_in, start_of, Indexed, Listing}
use Rattle.arcs.specs.Lists.{Indexes}
use Rattle.arcs.specs.Tables.{end_at}
use Rattle.ground.specs.declared.end.End.{End}
use Rattle.arcs.specs.declared.lists.Index.{Index}
use Rattle.arcs.specs.declared.net.Net.{Net}
use Rattle.arcs.proofs.Groups.{group_in}

module _ (end : ℕ → ℕ) (m n : ℕ) (ends order : List ℕ) (x : Indexed end m n ends order) where
  -- a list starts where the one before it ends
  starts_right : (p : ℕ) → p < n → start_in ends p ≡ start_of end m p
  starts_right zero h = refl
  starts_right (suc p) h = x.ends_right p (omega arith)

  pub indexed_listing : Listing n ends order
  indexed_listing = record {
    places = x.places;
    rising = λ p h. omega (arith, starts_right p h, x.ends_right p h);
    inside = λ p h. omega (arith, x.ends_right p h, group_in end m p, x.arcs);
  }

  -- the list of a place in the order is that of the arcs there
  indexed_list : (p : ℕ) → p < n → slice_range order (start_in ends p) (get_or ends p 0) ≡ arcs_at end m p
  indexed_list p h = ext_get_or 0 (slice_range order a b) (arcs_at end m p) (omega (arith, long, size)) at
    where
      a : ℕ
      a = start_in ends p

      b : ℕ
      b = get_or ends p 0

      long : length (slice_range order a b) ≡ b - a
      long = length-take-le (b - a) (drop a order) (omega (arith, length-drop a order, indexed_listing.inside p h))

      size : b - a ≡ length (arcs_at end m p)
      size = omega (arith, starts_right p h, x.ends_right p h)

      at : (k : ℕ) → k < length (slice_range order a b) → get_or (slice_range order a b) k 0 ≡ get_or (arcs_at end m p) k 0
      at k l =
          get_or-take (b - a) (drop a order) k 0 (omega (arith, long))
          ∙ get_or-drop a order k 0
          ∙ ap (λ z. get_or order (z + k) 0) (starts_right p h)
          ∙ x.order_right p k (omega (arith, long, size))

  pub indexed_at : (p : ℕ) → cond (ltb p n) (slice_range order (start_in ends p) (get_or ends p 0)) [] ≡ arcs_at end m p
  indexed_at p = elim (cases_lt p n) [
    | inl h ↦ cond-true (ltb p n) (slice_range order (start_in ends p) (get_or ends p 0)) [] (lt-ltb p n h) ∙ indexed_list p h
    | inr h ↦ cond-false (ltb p n) (slice_range order (start_in ends p) (get_or ends p 0)) [] (le-ltb p n h) ∙ sym (arcs_at-beyond end m n p x.inside h)
  ]

-- an index of no places is one of a net of no arcs
pub empty_indexes : (i : Index) (end : End) (net : Net) → i.places ≡ 0 → net.arcs.now ≡ [] → Indexes i end net
empty_indexes i end net e f p =
    cond-false (ltb p i.places) _ [] (le-ltb p i.places (omega arith)) ∙ sym (arcs_at-none (end_at end net.arcs.now) (length net.arcs.now) p (λ j h _. omega (arith, ap length f)))
