-- What a call means to a plan in its phase. Assumes nothing.
use Rattle.std.specs.Prelude.{true, false, cond, Ok, Err, Result}
use Rattle.terms.specs.declared.refusal.Refusal.{Refusal}
use Rattle.terms.specs.declared.refusal.Refusal.TheVariants.{NotSettled}
use Rattle.plan.specs.declared.phase.Phase.{Phase}
use Rattle.plan.specs.declared.phase.Phase.TheVariants.{Changed, UnderWay, Settled}
use Rattle.search.specs.declared.aim.Aim.{Aim}
use Rattle.search.specs.declared.made.Made.{Made}
use Rattle.terms.specs.Amounts.{◌⊕◌}
use Rattle.plan.specs.declared.header.Header.{Header}
use Rattle.plan.specs.declared.course.Course.{Course}
use Rattle.plan.specs.declared.course.Kind.{Kind}
use Rattle.plan.specs.declared.course.Kind.TheVariants.{Alter, Search, Route}

abbrev pub search_course : Phase → Course
search_course Changed = record { afresh = true; next = UnderWay }
search_course UnderWay = record { afresh = false; next = UnderWay }
search_course Settled = record { afresh = false; next = UnderWay }

abbrev pub route_course : Phase → Result Course Refusal
route_course Changed = Err NotSettled
route_course UnderWay = Err NotSettled
route_course Settled = Ok (record { afresh = false; next = Settled })

abbrev pub course_of : Phase → Kind → Result Course Refusal
course_of phase Alter = Ok (record { afresh = false; next = Changed })
course_of phase Search = Ok (search_course phase)
course_of phase Route = route_course phase

-- the header of a plan that was altered
abbrev pub changed_to : Header → Aim → Header
changed_to h aim = record { places = h.places; arcs = h.arcs; aim = aim; count = h.count; phase = Changed }

-- the header after a search that took this course and came to this
abbrev pub searched_to : Header → Course → Made → Header
searched_to h course made = record { places = h.places; arcs = h.arcs; aim = h.aim; count = cond course.afresh 0 h.count ⊕ made.turns; phase = cond made.settled Settled course.next }
