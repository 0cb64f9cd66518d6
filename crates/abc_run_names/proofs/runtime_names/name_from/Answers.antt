use Rattle.std.proofs.Common.{◌≡◌, ◌∙◌, [], ◌∷◌, ap, subst, sym}
use Rattle.std.specs.Prelude.{Some}
use Rattle.std.proofs.lemmas.Result.{IfOk-weaker}
use Rattle.abc_heap_values.specs.declared.values.Span.{Span}
use Rattle.abc_heap_values.specs.declared.values.Value.{Value}
use Rattle.abc_heap_store.specs.Texts.{IsText}
use Rattle.abc_frames.specs.Frame.{newest}
use Rattle.abc_meaning.specs.Names.{name_by_form}
use Rattle.abc_run_state.proofs.Keeping.{stays_self}
use Rattle.abc_objects.specs.declared.name.Name.{Name}
use Rattle.abc_run_state.specs.Operands.{operand_at}
use Rattle.abc_run_state.specs.Outer.{setting_in, world}
use Rattle.abc_run_state.specs.Stops.{IsOpen}
use Rattle.abc_meaning.specs.Setting.{NoSpace, NoText}
use Rattle.abc_run_names.specs.declared.runtime_names.Form.{Form}
use Rattle.abc_run_names.specs.Form.{HasFormText, name_form_of}
use Rattle.abc_run_names.specs.Named.{HasNameParts, IsSpaceOrNull, parts_for}
use Rattle.abc_run_names.proofs.Naming.{open_space}
use Rattle.abc_run_names.proofs.runtime_names.name_from.Goals as goal

pub returns-in-Whole-clause-part : goal.returns-in-Whole-clause-part
returns-in-Whole-clause-part g c =
    let p = setting_in c.args.linked.now g.out in
    let f = newest c.args.s.now.frames in
    ap (λ (x : Form). name_by_form p (Some (name_form_of x)) (parts_for (Some (name_form_of x)) c.args.above f) (world c.args.s.now g.out)) c.in-Whole.is

pub returns-in-Whole-clause-stays : goal.returns-in-Whole-clause-stays
returns-in-Whole-clause-stays g c = stays_self c.args.linked.now c.args.s.now c.requires.0

pub returns-in-Whole-clause-there : goal.returns-in-Whole-clause-there
returns-in-Whole-clause-there g c = subst (λ (x : Form). HasFormText c.args.linked.now.file.strings c.args.s.now.arena (Some (name_form_of x))) c.in-Whole.is c.requires.1.1.0

pub operand-space-requires : goal.operand-space-requires
operand-space-requires g c = subst (λ (x : Form). HasNameParts (Some (name_form_of x)) c.args.above (newest c.args.s.now.frames)) c.in-NoSpace.is c.requires.1.1.1.0

pub with_space-requires : goal.with_space-requires
with_space-requires g c =
    let p = setting_in c.args.linked.now g.out in
    let f = newest c.args.s.now.frames in
    let w = world c.args.s.now g.out in
    let free = subst (λ (x : Form). IsOpen (name_by_form p (Some (name_form_of x)) (parts_for (Some (name_form_of x)) c.args.above f) w)) c.in-NoSpace.is c.requires.1.1.1.1 in
    subst IsSpaceOrNull (sym c.operand-space.ensures.is) (open_space p c.in-NoSpace.text (operand_at c.args.above f) w free)

pub returns-in-NoSpace-clause-part : goal.returns-in-NoSpace-clause-part
returns-in-NoSpace-clause-part g c =
    let p = setting_in c.args.linked.now g.out in
    let f = newest c.args.s.now.frames in
    let w = world c.args.s.now g.out in
    ap (λ (x : Form). name_by_form p (Some (name_form_of x)) (parts_for (Some (name_form_of x)) c.args.above f) w) c.in-NoSpace.is
    ∙ ap (λ (v : Value). name_by_form p (Some (NoSpace c.in-NoSpace.text)) (v ∷ []) w) (sym c.operand-space.ensures.is)
    ∙ c.with_space.ensures.part p w

pub returns-in-NoSpace-clause-stays : goal.returns-in-NoSpace-clause-stays
returns-in-NoSpace-clause-stays g c = stays_self c.args.linked.now c.args.s.now c.requires.0

pub returns-in-NoSpace-clause-there : goal.returns-in-NoSpace-clause-there
returns-in-NoSpace-clause-there g c =
    let pool = c.args.linked.now.file.strings in
    let h = c.args.s.now.arena in
    let text : IsText pool h c.in-NoSpace.text = subst (λ (x : Form). HasFormText pool h (Some (name_form_of x))) c.in-NoSpace.is c.requires.1.1.0 in
    IfOk-weaker c.with_space.result (λ (n : Name). n.text ≡ c.in-NoSpace.text) (λ (n : Name). IsText pool h n.text) (λ n e. subst (λ (t : Span). IsText pool h t) (sym e) text) c.with_space.ensures.text

pub operand-text-requires : goal.operand-text-requires
operand-text-requires g c = subst (λ (x : Form). HasNameParts (Some (name_form_of x)) c.args.above (newest c.args.s.now.frames)) c.in-NoText.is c.requires.1.1.1.0

pub with_text-requires : goal.with_text-requires
with_text-requires g c = (c.requires.0.over, (c.operand-text.ensures.there c.args.linked.now c.args.s.now.arena c.requires.0.frame.stack))

pub returns-in-NoText-clause-part : goal.returns-in-NoText-clause-part
returns-in-NoText-clause-part g c =
    let p = setting_in c.args.linked.now g.out in
    let f = newest c.args.s.now.frames in
    let w = world c.args.s.now g.out in
    ap (λ (x : Form). name_by_form p (Some (name_form_of x)) (parts_for (Some (name_form_of x)) c.args.above f) w) c.in-NoText.is
    ∙ ap (λ (v : Value). name_by_form p (Some (NoText c.in-NoText.spaces)) (v ∷ []) w) (sym c.operand-text.ensures.is)
    ∙ c.with_text.ensures.part
