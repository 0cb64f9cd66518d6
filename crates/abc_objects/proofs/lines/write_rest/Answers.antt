use Rattle.std.proofs.Common.{◌∙◌, ◌∷◌, List, ℕ, is_some, ap, subst, take}
use Rattle.std.proofs.lemmas.Result.{err_from_is_err_and}
use Rattle.std.specs.List.{flat_map}
use Rattle.abc_base.proofs.Writing.{known_told}
use Rattle.abc_base.specs.Sinks.{GrowsByFront}
use Rattle.abc_heap_values.specs.declared.values.Value.TheVariants.{Undefined}
use Rattle.abc_objects.specs.Lines.{behind}
use Rattle.abc_objects.proofs.Lined.{front_in, there_at}
use Rattle.abc_objects.proofs.lines.write_rest.Goals as goal

pub bytes-requires : goal.bytes-requires
bytes-requires g c = there_at c.args.linked.now.file.strings c.args.arena.now c.args.texts.now c.loop-text.text-index Undefined c.requires c.loop-text-test.true

pub returns-in_err-write_behind-clause-bytes : goal.returns-in_err-write_behind-clause-bytes
returns-in_err-write_behind-clause-bytes g c = λ some.
    let p = err_from_is_err_and c.from_residual.result c.from_residual.ensures.1 in
    let old = g.K.Sink.written c.args.out.now in
    let mid = g.K.Sink.written c.loop-text.out in
    let new = g.K.Sink.written c.write_behind.new.out in
    let text = behind c.args.linked.now.file.strings c.args.arena.now in
    let before = c.loop-text.invariant.written some in
    let told = ap is_some before ∙ known_told old (flat_map text (take c.loop-text.text-index c.args.texts.now)) ∙ some in
    let front = subst (λ (bs : List ℕ). GrowsByFront mid new (32 ∷ bs)) c.bytes.ensures (c.in_err-write_behind.ensures.bytes told) in
    rw p.1 (front_in text old mid new c.args.texts.now c.loop-text.text-index Undefined c.loop-text-test.true before front)
