-- What a call knows once it is admitted, and what a refused one leaves. Assumes nothing.
use Rattle.std.proofs.Common.{◌≡◌, ℕ, ◌≤◌, true, false, cond, not, ◌&&◌, eqb, ltb, ◌⊎◌, List, [], ◌∷◌, Some, None, Ok, Err, Option, Result, sym, refl, ap, ◌∙◌, subst, inl, inr, arith}
use Rattle.std.proofs.lemmas.Bool.{eqb-true, eq-eqb, ltb-false, cond-true, cond-false, cases_Bool, and_parts, and_from, and_right, or_parts, not_from_true}
use Rattle.terms.specs.declared.refusal.Refusal.{Refusal}
use Rattle.terms.specs.declared.refusal.Refusal.TheVariants.{OtherGround, TableShort}
use Rattle.ground.specs.Meanings.{Meaning}
use Rattle.method.specs.Calls.{Call, Outcome, refuses, unless}
use Rattle.method.specs.States.{State}
use Rattle.method.specs.Handed.{Lent, is_short, same_size, given_ground, turned_away_by}
use Rattle.queue.specs.declared.entry.Entry.{Entry}
use Rattle.queue.specs.declared.key.Key.{Key}
use Rattle.search.specs.declared.place.Place.{Place}
use Rattle.plan.specs.declared.answer.Answer.{Answer}
use Rattle.plan.specs.declared.header.Header.{Header}
use Rattle.plan.specs.Answers.{heard, refusal_in}
use Rattle.plan.specs.Declines.{begun_as, begun_on, ground_size, or_refused, size_in, size_of}
use Rattle.plan.specs.Stands.{Stand, Beyond, CarriesOut, Unless}

pub some_same : {X : Type 0} (x y : X) → Some x ≡ Some y → x ≡ y
some_same x y e = cc

abbrev pub standing_at : Option Header → List ℕ → List Place → List (Entry Key) → Stand
standing_at o costs places queue = record { header = o; costs = costs; places = places; queue = queue }

-- the header of a plan that has begun is the one it holds
pub begun_is : (o : Option Header) (h : Header) → Ok h ≡ begun_as o → o ≡ Some h
begun_is None h e = absurd (let z : ◌≡◌ {A = ℕ} 0 1 = cc in omega arith)
begun_is (Some x) h e = let k : x ≡ h = cc in ap Some k

pub record BegunOn (o : Option Header) (m : Meaning) (h : Header) : Type 0 where
  pub header : o ≡ Some h
  pub places_same : h.places ≡ m.places
  pub arcs_same : h.arcs ≡ m.arcs

pub begun_on_is : (o : Option Header) (m : Meaning) (h : Header) → Ok h ≡ begun_on o m → BegunOn o m h
begun_on_is None m h e = absurd (let z : ◌≡◌ {A = ℕ} 0 1 = cc in omega arith)
begun_on_is (Some x) m h e = by (cases_Bool (same_size (size_in x) (ground_size m)))
  where
    by : (same_size (size_in x) (ground_size m) ≡ true) ⊎ (same_size (size_in x) (ground_size m) ≡ false) → BegunOn (Some x) m h
    by (inl t) =
        let is : Ok h ≡ Ok x = e ∙ cond-true {A = Result Header Refusal} (same_size (size_in x) (ground_size m)) (Ok x) (Err OtherGround) t in
        let k : x ≡ h = cc in
        let both = and_parts (eqb x.places m.places) (eqb x.arcs m.arcs) t in
        record {
          header = ap Some k;
          places_same = ap (λ (y : Header). y.places) (sym k) ∙ eqb-true x.places m.places both.0;
          arcs_same = ap (λ (y : Header). y.arcs) (sym k) ∙ eqb-true x.arcs m.arcs both.1;
        }
    by (inr f) =
        let is : Ok h ≡ Err OtherGround = e ∙ cond-false {A = Result Header Refusal} (same_size (size_in x) (ground_size m)) (Ok x) (Err OtherGround) f in
        absurd (let z : ◌≡◌ {A = ℕ} 0 1 = cc in omega arith)

-- a call on the plan's own ground with tables that have room
pub not_turned_away : (o : Option Header) (m : Meaning) (h : Header) → BegunOn o m h → (lent : Lent) → is_short lent ≡ false → (call : Call) → turned_away_by (size_of o) (ground_size m) lent call ≡ None
not_turned_away o m h b lent room call =
    let same : same_size (size_in h) (ground_size m) ≡ true = and_from (eqb h.places m.places) (eqb h.arcs m.arcs) (eq-eqb _ _ b.places_same) (eq-eqb _ _ b.arcs_same) in
    let no_other = and_right (given_ground call) (not (same_size (size_in h) (ground_size m))) (not_from_true _ same) in
    ap (λ x. turned_away_by (size_of x) (ground_size m) lent call) b.header
    ∙ cond-false (given_ground call && not (same_size (size_in h) (ground_size m))) (Some OtherGround) (cond (is_short lent) (Some TableShort) None) no_other
    ∙ cond-false (is_short lent) (Some TableShort) None room

-- a table that is not short has room
pub first_room : (k n : ℕ) (lent : Lent) → is_short ((k, n) ∷ lent) ≡ false → n ≤ k
first_room k n lent e = ltb-false k n (or_parts (ltb k n) (is_short lent) e).0

pub later_room : (k n : ℕ) (lent : Lent) → is_short ((k, n) ∷ lent) ≡ false → is_short lent ≡ false
later_room k n lent e = (or_parts (ltb k n) (is_short lent) e).1

-- what a test for a refusal told
pub was_refused : {X : Type 0} (o : Option Refusal) (x : X) (e : Refusal) → Err e ≡ or_refused o x → o ≡ Some e
was_refused {X} None x e is = absurd (let z : ◌≡◌ {A = ℕ} 0 1 = cc in omega arith)
was_refused {X} (Some r) x e is = let k : r ≡ e = cc in ap Some k

pub was_accepted : {X : Type 0} (o : Option Refusal) (x y : X) → Ok y ≡ or_refused o x → (o ≡ None) × (y ≡ x)
was_accepted {X} None x y is = (refl, cc)
was_accepted {X} (Some r) x y is = absurd (let z : ◌≡◌ {A = ℕ} 0 1 = cc in omega arith)

pub nothing_beyond : (m : Meaning) (stand : Stand) → Beyond m stand stand
nothing_beyond m stand = record { costs_beyond = refl; places_beyond = refl; queue_beyond = refl }

-- a call that answers this refusal
module _ (r : Result Answer Refusal) (x : Refusal) (is : r ≡ Err x) where
  pub refusal_is : refusal_in r ≡ Some x
  refusal_is = ap refusal_in is

  pub kept_since : (before after : Stand) → after ≡ before → Unless r before after
  kept_since before after k = subst (λ (y : Result Answer Refusal). Unless y before after) (sym is) k

  pub carried_since : (m : Meaning) (call : Call) (before after : Stand) → CarriesOut m call (refuses x) before after → CarriesOut m call (heard r []) before after
  carried_since m call before after k = subst (λ (y : Result Answer Refusal). CarriesOut m call (heard y []) before after) (sym is) k

-- a plan has one header
pub one_header : (o : Option Header) (h k : Header) → o ≡ Some h → o ≡ Some k → h ≡ k
one_header o h k p q = some_same h k (sym p ∙ q)

-- a declined call answers its refusal and changes nothing; any other does what it is defined to do
pub unless_refuses : (s : State) (o : Option Refusal) (x : Outcome) (e : Refusal) → o ≡ Some e → (refuses e ≡ (unless s o x).answer) × ((unless s o x).after ≡ s)
unless_refuses s o x e is = (ap (λ r. (unless s r x).answer) (sym is), ap (λ r. (unless s r x).after) is)

pub unless_accepts : (s : State) (o : Option Refusal) (x : Outcome) → o ≡ None → (x.answer ≡ (unless s o x).answer) × ((unless s o x).after ≡ x.after)
unless_accepts s o x is = (ap (λ r. (unless s r x).answer) (sym is), ap (λ r. (unless s r x).after) is)
