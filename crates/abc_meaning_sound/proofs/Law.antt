-- The theorem, from what is given of the file, the operations and the searches.
use Rattle.std.proofs.Common.{[]}
use Rattle.abc_meaning.specs.Setting.{Setting}
use Rattle.abc_meaning.specs.Table.{acts, call_acts, class_acts, object_acts, operation_acts, plain_acts, walking_acts}
use Rattle.abc_meaning.specs.Sound.{AreTypings, Typings}
use Rattle.abc_meaning_sound.specs.Keeping.{GroupsHold}
use Rattle.abc_meaning_sound.specs.ObjectLaws.{Given, RunsNeverStick, StepsStaySound}
use Rattle.abc_meaning_sound.proofs.Calls.{new_fares}
use Rattle.abc_meaning_sound.proofs.Computing.{operations_hold}
use Rattle.abc_meaning_sound.proofs.Jumping.{jumping_hold}
use Rattle.abc_meaning_sound.proofs.NamedActs.{calls_hold, objects_hold}
use Rattle.abc_meaning_sound.proofs.Plainly.{plain_hold}
use Rattle.abc_meaning_sound.proofs.Stepping.{run_sound, step_sound}
use Rattle.abc_meaning_sound.proofs.Supers.{classes_hold}
use Rattle.abc_meaning_sound.proofs.Walked.{walking_hold}

-- each act of the table is sound
pub groups_hold : (p : Setting) (typings : Typings) → Given p → AreTypings p typings → GroupsHold p typings
unfolding acts
groups_hold p typings g typed =
    let calls = call_acts (class_acts []) in
    let walks = walking_acts (object_acts calls) in
    jumping_hold p g.file g.ops typings typed (plain_acts (operation_acts walks))
    (plain_hold p g.file g.ops typings typed (operation_acts walks)
    (operations_hold p g.file g.ops typings typed walks
    (walking_hold p g.file g.ops typings typed (object_acts calls)
    (objects_hold p g.file g.ops g.search typings typed calls
    (calls_hold p g.file g.ops g.search typings typed (class_acts [])
    (classes_hold p g.file g.ops g.search g.scopes g.makers typings typed [] tt))))))

pub steps_stay_sound : StepsStaySound
steps_stay_sound p typings q g typed sound = step_sound p g.file g.ops typings typed (groups_hold p typings g typed) (new_fares p g.file g.ops typings typed) q sound

pub runs_never_stick : RunsNeverStick
runs_never_stick p typings q fuel g typed sound e = run_sound p g.file g.ops typings typed (groups_hold p typings g typed) (new_fares p g.file g.ops typings typed) fuel q sound e
