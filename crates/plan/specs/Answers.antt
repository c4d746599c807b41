-- What a call said, in the words of the method. Assumes nothing.
use Rattle.std.specs.Prelude.{ℕ, List, take, Some, None, Ok, Err, Option, Result}
use Rattle.terms.specs.declared.refusal.Refusal.{Refusal}
use Rattle.method.specs.Calls.{done, settles, cuts, routes, sums, refuses, Answer as Said}
use Rattle.plan.specs.declared.answer.Answer.{Answer}
use Rattle.plan.specs.declared.answer.Answer.TheVariants.{Done, Settled, Cut, Route, Sum}

-- an answer, the route being at the front of this list
abbrev pub said_by : Answer → List ℕ → Said
said_by Done list = done
said_by (Settled turns count) list = settles turns count
said_by (Cut turns count) list = cuts turns count
said_by (Route arcs sum) list = routes (take arcs list) sum
said_by (Sum sum) list = sums sum

abbrev pub heard : Result Answer Refusal → List ℕ → Said
heard (Ok answer) list = said_by answer list
heard (Err refusal) list = refuses refusal

-- the refusal of a call that was declined
abbrev pub refusal_in : {X : Type 0} → Result X Refusal → Option Refusal
refusal_in (Ok x) = None
refusal_in (Err refusal) = Some refusal
