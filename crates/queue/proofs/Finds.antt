-- Finding a number, or room, in a table.
use Rattle.std.proofs.Common.{◌≡◌, ℕ, ◌+◌, ◌%◌, ◌<◌, ◌≤◌, Bool, true, false, List, length, get_or, set, is_none, is_some, Some, None, Option, sym, refl, ap, ◌∙◌, subst, inl, inr, arith, below_more}
use Rattle.std.specs.List.{AllWithin, HoldsAt}
use Rattle.std.specs.Option.{MatchOption}
use Rattle.std.proofs.lemmas.List.{get_or-map, get_or_past, length-map, map-set, get_or-set_same, get_or-set_other}
use Rattle.std.proofs.lemmas.Bool.{cases_Bool, cases_eq, cases_lt, both_ways, false≢true}
use Rattle.queue.specs.declared.entry.Entry.{Entry}
use Rattle.queue.specs.Content.{free_entry, item_of, items, held, strayed_of}
use Rattle.queue.specs.Sound.{under, Absent, Homed, Found, Room, Scanned, Chosen, Marked}
use Rattle.queue.specs.Tree.{strays}
use Rattle.queue.proofs.Contests.{item_read, length_items}
use Rattle.queue.proofs.Contents.{under_some, other_under, none_under, count_full}
use Rattle.queue.proofs.Walks.{blind}

pub free_none : {A : Type 0} (x : Option A) → is_none x ≡ true → x ≡ None
free_none None h = refl
free_none (Some a) h = absurd (false≢true h)

pub taken_some : {A : Type 0} (x : Option A) → is_none x ≡ false → is_some x ≡ true
taken_some None h = absurd (false≢true (sym h))
taken_some (Some a) h = refl

module _ {K : Type 0} (es : List (Entry K)) where
  -- the entry read at a slot, and whether it holds the number
  pub under_read : (i n : ℕ) (e : Entry K) (b : Bool) → i < length es → e ≡ get_or es i e → b ≡ under (item_of e) n → under (get_or (items es) i None) n ≡ b
  under_read i n e b l r h = ap (λ x. under x n) (item_read es i e l r) ∙ sym h

  pub free_read : (i : ℕ) (e : Entry K) (b : Bool) → i < length es → e ≡ get_or es i e → b ≡ is_none (item_of e) → is_none (get_or (items es) i None) ≡ b
  free_read i e b l r h = ap is_none (item_read es i e l r) ∙ sym h

  -- past the table there is nothing
  pub absent_past : (n s : ℕ) → length es ≤ s → under (get_or (items es) s None) n ≡ false
  absent_past n s h = none_under _ n (get_or_past (items es) s None (let e = length_items es in omega arith))

  absent_all : (n i : ℕ) → length es ≤ i → ((s : ℕ) → s < i → under (get_or (items es) s None) n ≡ false) → Absent (items es) n
  absent_all n i h below s = elim (cases_lt s i) [ inl l ↦ below s l | inr g ↦ absent_past n s (omega arith) ]

  pub full_all : (i : ℕ) → length es ≤ i → ((s : ℕ) → s < i → get_or (items es) s None ≡ None → ⊥) → held es ≡ length es
  full_all i h below = let e = length_items es in count_full (items es) (λ s l. below s (omega arith)) ∙ e

  -- with its home unmarked, a number that is not at home is nowhere
  pub absent_home : (n h : ℕ) (e : Entry K) → h ≡ n % length es → h < length es → under (get_or (items es) h None) n ≡ false → e ≡ get_or es h e → false ≡ strayed_of e → Homed (length es) (items es) (strays es) → Absent (items es) n
  absent_home n h e at l away r plain homed s =
      elim (cases_Bool (under (get_or (items es) s None) n)) [
        | inl t ↦ absurd
            (elim (homed s n t) [
              | inl q ↦ (let P : ℕ → Type 0 = λ j. under (get_or (items es) j None) n ≡ false in both_ways _ (subst P (at ∙ sym q) away) t)
              | inr m ↦ (let P : ℕ → Type 0 = λ j. get_or (strays es) j false ≡ false in both_ways _ (subst P at (get_or-map strayed_of es h e false l ∙ (ap strayed_of (sym r) ∙ sym plain))) m)
            ])
        | inr f ↦ f
      ]

  -- ---- the slot that is chosen

  pub chosen_found : (n s : ℕ) → Found es n (Some s) → Chosen es n (Some s)
  chosen_found n s f =
      let k = under_some _ n f.1 in
      (f.0, λ m ne. other_under _ n m k.0 k.1 ne, λ homed distinct t ne. elim (cases_Bool (under (get_or (items es) t None) n)) [ inl u ↦ absurd (ne (distinct t s n u f.1)) | inr u ↦ u ])

  pub chosen_free : (n : ℕ) (r : Option ℕ) → Found es n None → Room es r → Chosen es n r
  chosen_free n (Some s) f r = (r.0, λ m ne. none_under _ m r.1, λ homed distinct t ne. f homed t)
  chosen_free n None f r = (r, f)

  pub chosen_scanned : (n : ℕ) (r : Option ℕ) → Scanned es n r → Chosen es n r
  chosen_scanned n (Some s) (l, inl u) = chosen_found n s (l, u)
  chosen_scanned n (Some s) (l, inr w) = chosen_free n (Some s) (λ _. w.1) (l, w.0)
  chosen_scanned n None r = chosen_free n None (λ _. r.1) r.0

  -- ---- one scan for both

  -- the free slot found so far, or that all slots so far are taken
  unfoldable pub Freest : ℕ → Option ℕ → Type 0
  Freest i (Some s) = (s < i) × (get_or (items es) s None ≡ None)
  Freest i None = (s : ℕ) → s < i → get_or (items es) s None ≡ None → ⊥

  pub freest_none : Freest 0 None
  unfolding Freest
  freest_none s l = absurd (omega arith)

  pub freest_here : (i : ℕ) → get_or (items es) i None ≡ None → Freest (i + 1) (Some i)
  unfolding Freest
  freest_here i e = (omega arith, e)

  pub freest_past : (i : ℕ) (f : Option ℕ) → is_none (get_or (items es) i None) ≡ false → Freest i f → Freest (i + 1) f
  unfolding Freest
  freest_past i (Some s) e h = (omega (arith, h.0), h.1)
  freest_past i None e h = below_more _ _ h (λ z. false≢true (sym e ∙ ap is_none z))

  pub scanned_all : (n i : ℕ) (f : Option ℕ) → i ≤ length es → length es ≤ i → Freest i f → ((s : ℕ) → s < i → under (get_or (items es) s None) n ≡ false) → Scanned es n f
  unfolding Freest
  scanned_all n i (Some s) l g h away = (omega (arith, h.0), inr (h.1, absent_all n i g away))
  scanned_all n i None l g h away = (full_all i g h, absent_all n i g away)

  -- ---- a look at every slot

  -- the first slot whose item passes a test, or that none does
  abbrev pub First : (Option (ℕ × K) → Bool) → Option ℕ → Type 0
  First q r = MatchOption r (AllWithin (λ e. q (item_of e) ≡ false) es 0 (length es)) (λ i. (i < length es) × HoldsAt (λ e. q (item_of e) ≡ true) es i × AllWithin (λ e. q (item_of e) ≡ false) es 0 i)

  item_at : (q : Option (ℕ × K) → Bool) (s : ℕ) → s < length es → q (get_or (items es) s None) ≡ q (item_of (get_or es s free_entry))
  item_at q s l = ap q (get_or-map item_of es s free_entry None l)

  pub found_first : (n : ℕ) (r : Option ℕ) → First (λ x. under x n) r → Found es n r
  found_first n (Some s) f = (f.0, item_at (λ x. under x n) s f.0 ∙ f.1 free_entry)
  found_first n None f = λ _ s. elim (cases_lt s (length es)) [ inl l ↦ item_at (λ x. under x n) s l ∙ f s free_entry (omega arith) l | inr g ↦ absent_past n s g ]

  pub room_first : (r : Option ℕ) → First is_none r → Room es r
  room_first (Some s) f = (f.0, free_none _ (item_at is_none s f.0 ∙ f.1 free_entry))
  room_first None f =
      let size = length_items es in
      count_full (items es) (λ s l z. both_ways _ (item_at is_none s (omega arith) ∙ f s free_entry (omega arith) (omega arith)) (ap is_none z)) ∙ size

  -- ---- the mark

  pub marks : (slot n h : ℕ) (e d : Entry K) → h ≡ n % length es → h < length es → item_of e ≡ item_of (get_or es h d) → e.winner ≡ (get_or es h d).winner → strayed_of e ≡ true → Marked slot n es (set es h e)
  marks slot n h e d at l hi hw hs =
      record {
        same = blind es h d e item_of hi;
        tree = blind es h d e (λ x. x.winner) hw;
        kept = λ j t. let P : List Bool → Type 0 = λ zs. get_or zs j false ≡ true in
            subst P (sym (map-set strayed_of es h e))
            (elim (cases_eq j h) [
              | inl q ↦ (let Q : ℕ → Type 0 = λ i. get_or (set (strays es) h (strayed_of e)) i false ≡ true in subst Q (sym q) here)
              | inr ne ↦ get_or-set_other (strays es) h j (strayed_of e) false ne ∙ t
            ]);
        known = inr (let P : List Bool → Type 0 = λ zs. get_or zs (n % length es) false ≡ true in
            subst P (sym (map-set strayed_of es h e)) (let Q : ℕ → Type 0 = λ i. get_or (set (strays es) h (strayed_of e)) i false ≡ true in subst Q at here));
      }
    where
      here : get_or (set (strays es) h (strayed_of e)) h false ≡ true
      here = get_or-set_same (strays es) h (strayed_of e) false (let k = length-map es strayed_of in omega arith) ∙ hs
