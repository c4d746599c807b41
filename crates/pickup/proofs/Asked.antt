-- What the ground below answers is small.
use Rattle.std.proofs.Common.{◌≡◌, ℕ, ◌<◌, ltb, Some, arith}
use Rattle.std.proofs.lemmas.Bool.{ltb-true}
use Rattle.ground.proofs.EndLaws.{end_in}
use Rattle.ground.specs.Ends.{end_of}
use Rattle.ground.specs.KnownLaws.{known_some}
use Rattle.ground.specs.Meanings.{Meaning, Lawful}
use Rattle.ground.specs.Questions.{known}
use Rattle.ground.specs.declared.end.End.{End}

-- an end of an arc below is a place, and places are few
pub end_few : (e : End) (b : Meaning) → Lawful b → (j x : ℕ) → known (ltb j b.arcs) (end_of e b j) ≡ Some x → x < 16384
end_few e b l j x is =
    let k = known_some (ltb j b.arcs) (end_of e b j) x is in
    omega (arith, k.1, end_in e b l j (ltb-true j b.arcs k.0), l.few_places)
