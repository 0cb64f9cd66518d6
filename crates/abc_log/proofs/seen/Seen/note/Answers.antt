use Rattle.std.proofs.Common.{◌≡◌, ap, length, None, Some, arith}
use Rattle.abc_log.specs.Starts.{started_from}
use Rattle.abc_log.proofs.Noting.{none_noted, same_length, some_noted}
use Rattle.abc_log.proofs.seen.Seen.note.Goals as goal

pub returns-in_err-script-clause-seen : goal.returns-in_err-script-clause-seen
returns-in_err-script-clause-seen c =
    let none : started_from 0 c.args.self.now c.args.now.now ≡ None = cc (c.in_err-script.was, c.started_since.ensures, c.deref.ensures.value, c.as_slice.ensures, c.self.view_is) in
    none_noted c.args.self.now c.args.now.now c.requires.more none

pub index_mut-requires : goal.index_mut-requires
index_mut-requires c =
    let some : started_from 0 c.args.self.now c.args.now.now ≡ Some c.in_ok-script.script = cc (c.in_ok-script.was, c.started_since.ensures, c.deref.ensures.value, c.as_slice.ensures, c.self.view_is) in
    let noted = some_noted c.args.self.now c.args.now.now c.in_ok-script.script c.requires.more some in
    omega (arith, noted.1, ap length c.self.view_is)

pub overflow_cast-result : goal.overflow_cast-result
overflow_cast-result c =
    let some : started_from 0 c.args.self.now c.args.now.now ≡ Some c.in_ok-script.script = cc (c.in_ok-script.was, c.started_since.ensures, c.deref.ensures.value, c.as_slice.ensures, c.self.view_is) in
    let noted = some_noted c.args.self.now c.args.now.now c.in_ok-script.script c.requires.more some in
    omega (arith, noted.1, same_length c.args.self.now c.args.now.now c.requires.more, c.requires.few)

pub returns-clause-seen : goal.returns-clause-seen
returns-clause-seen c =
    let some : started_from 0 c.args.self.now c.args.now.now ≡ Some c.in_ok-script.script = cc (c.in_ok-script.was, c.started_since.ensures, c.deref.ensures.value, c.as_slice.ensures, c.self.view_is) in
    let noted = some_noted c.args.self.now c.args.now.now c.in_ok-script.script c.requires.more some in
    cc (noted.0, c.self.view_is)
