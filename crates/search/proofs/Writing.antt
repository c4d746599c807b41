-- One record written into the places. Assumes nothing.
use Rattle.std.proofs.Common.{◌≡◌, ℕ, ◌<◌, Bool, List, length, set, sym, refl, ap, ◌∙◌, inl, inr, get_or-set_other, get_or-set_same}
use Rattle.std.proofs.lemmas.Bool.{cases_eq}
use Rattle.search.specs.declared.place.Place.{Place}
use Rattle.search.specs.Tables.{place_at, nowhere}
use Rattle.search.specs.Turning.{SameValues}

module _ (places places' : List Place) (p : ℕ) (place : Place) (within : p < length places) (written : places' ≡ set places p place) where
  pub there : place_at places' p ≡ place
  there = ap (λ ps. place_at ps p) written ∙ get_or-set_same places p place nowhere within

  pub there_too : (q : ℕ) → q ≡ p → place_at places' q ≡ place
  there_too q e = ap (place_at places') e ∙ there

  pub elsewhere : (q : ℕ) → (q ≡ p → ⊥) → place_at places' q ≡ place_at places q
  elsewhere q d = ap (λ ps. place_at ps q) written ∙ get_or-set_other places p q place nowhere d

  -- what the record keeps of a place stays everywhere
  pub stays : {X : Type 0} (part : Place → X) → part place ≡ part (place_at places p) → (q : ℕ) → part (place_at places' q) ≡ part (place_at places q)
  stays part e q = elim (cases_eq q p) [ inl i ↦ (ap part (there_too q i) ∙ e ∙ ap (λ z. part (place_at places z)) (sym i)) | inr d ↦ ap part (elsewhere q d) ]

pub unchanged : (places : List Place) → SameValues places places
unchanged places = record { values = λ q. refl; closed = λ q. refl }

pub same_then : (a b c : List Place) → SameValues a b → SameValues b c → SameValues a c
same_then a b c h k = record { values = λ q. k.values q ∙ h.values q; closed = λ q. k.closed q ∙ h.closed q }

-- a place has a new value, and stands in Closed or not; each rhs is as it was
pub record Begun (p value : ℕ) (closed : Bool) (places places' : List Place) : Type 0 where
  pub value_is : (place_at places' p).g ≡ value
  pub values : (q : ℕ) → (q ≡ p → ⊥) → (place_at places' q).g ≡ (place_at places q).g
  pub closed_is : (place_at places' p).closed ≡ closed
  pub closeds : (q : ℕ) → (q ≡ p → ⊥) → (place_at places' q).closed ≡ (place_at places q).closed
  pub stored : (q : ℕ) → (place_at places' q).rhs ≡ (place_at places q).rhs

pub begun : (places places' : List Place) (p : ℕ) (place : Place) → p < length places → places' ≡ set places p place → place.rhs ≡ (place_at places p).rhs → Begun p place.g place.closed places places'
begun places places' p place within written e = record {
  value_is = ap (λ x. x.g) (there places places' p place within written);
  values = λ q d. ap (λ x. x.g) (elsewhere places places' p place within written q d);
  closed_is = ap (λ x. x.closed) (there places places' p place within written);
  closeds = λ q d. ap (λ x. x.closed) (elsewhere places places' p place within written q d);
  stored = stays places places' p place within written (λ x. x.rhs) e;
}
