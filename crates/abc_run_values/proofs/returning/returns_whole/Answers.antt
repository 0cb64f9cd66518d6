use Rattle.std.proofs.Common.{◌≡◌, ◌∙◌, ap}
use Rattle.std.specs.Prelude.{Some, slice_get}
use Rattle.std.specs.declared.option.Option.{Option}
use Rattle.abc_heap_values.specs.declared.values.Value.{Value}
use Rattle.abc_frames.specs.Frame.{newest}
use Rattle.abc_meaning.specs.At.{Returns}
use Rattle.abc_run_state.specs.Outer.{setting_in, world}
use Rattle.abc_meaning.specs.World.{Outcome, and_then, pure, some, ◌>>=◌}
use Rattle.abc_meaning.specs.Entering.{coerces_to}
use Rattle.abc_file_types.specs.declared.methods.Method.{Method}
use Rattle.abc_run_values.proofs.returning.returns_whole.Goals as goal

pub returns-in-Some : goal.returns-in-Some
returns-in-Some g c = λ e.
    let p = setting_in c.args.linked.now g.out in
    let w = world c.args.s.now g.out in
    let v = c.args.v in
    let file = c.abc.ensures in
    let method = c.method.ensures in
    let found = c.in-Some.ensures in
    let there : slice_get c.args.linked.now.file.methods (newest c.args.s.now.frames).method ≡ Some c.in-Some.method.now = cc in
    ap (λ (o : Option Method). and_then (some o w) (λ m. coerces_to p m.ret v >>= λ r. pure (Returns r))) there
    ∙ ap (λ (o : Outcome Value). and_then o (λ r. pure (Returns r))) (c.is_of_named.ensures e g.out w)
