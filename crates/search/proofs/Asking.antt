-- What a ground answers of an arc that it has, and tables that fit it. Assumes nothing.
use Rattle.std.proofs.Common.{◌≡◌, ℕ, ◌<◌, Bool, true, false, ◌&&◌, ltb, List, Some, sym, refl, ◌∙◌, arith}
use Rattle.ground.specs.KnownLaws.{known_some}
use Rattle.ground.specs.Meanings.{Meaning, Lawful}
use Rattle.ground.specs.Questions.{head_of, tail_of}
use Rattle.std.proofs.lemmas.Bool.{eq-eqb, false≢true}
use Rattle.search.specs.Tables.{Sized, fits}
use Rattle.search.specs.declared.place.Place.{Place}

module _ (m : Meaning) (lawful : Lawful m) (j : ℕ) (there : j < m.arcs) where
  pub head_is : (x : ℕ) → Some x ≡ head_of m j → (x ≡ m.head j) × (x < m.places)
  head_is x e = let k = (known_some (ltb j m.arcs) (m.head j) x (sym e)).1 in (k, omega (arith, lawful.head_in j there))

  pub tail_is : (x : ℕ) → Some x ≡ tail_of m j → (x ≡ m.tail j) × (x < m.places)
  tail_is x e = let k = (known_some (ltb j m.arcs) (m.tail j) x (sym e)).1 in (k, omega (arith, lawful.tail_in j there))

both : (a b : Bool) → (a && b) ≡ true → (a ≡ true) × (b ≡ true)
both true true e = (refl, refl)
both true false e = absurd (false≢true e)
both false b e = absurd (false≢true e)

module _ (m : Meaning) (costs : List ℕ) (places : List Place) where
  sized_fits : Sized m costs places → fits m costs places ≡ true
  sized_fits s = rw (eq-eqb _ _ s.costs_fit, eq-eqb _ _ s.places_fit)

  pub unfit : fits m costs places ≡ false → Sized m costs places → ⊥
  unfit e s = false≢true (sym e ∙ sized_fits s)
