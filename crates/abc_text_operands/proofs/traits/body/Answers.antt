-- By the kind.
use Rattle.std.proofs.Common.{◌≡◌, sym, subst}
use Rattle.std.specs.declared.result.Result.{Result}
use Rattle.abc_file_types.specs.declared.traits.TraitKind.{TraitKind}
use Rattle.abc_text_lines.specs.Lineforms as forms
use Rattle.abc_text_operands.specs.Joined.{line_result}
use Rattle.abc_text_tokens.specs.Walks.{tokens_of}
use Rattle.abc_text_operands.proofs.traits.body.Goals as goal

pub returns-in-Slot : goal.returns-in-Slot
returns-in-Slot c labels = subst (λ (k : TraitKind). c.slot.result ≡ line_result (forms.trait_operands c.args.sizes.now k) labels (tokens_of c.args.fields.now)) (sym c.in-Slot.is) (c.slot.ensures labels)

pub returns-in-Const : goal.returns-in-Const
returns-in-Const c labels = subst (λ (k : TraitKind). c.slot-in-Const.result ≡ line_result (forms.trait_operands c.args.sizes.now k) labels (tokens_of c.args.fields.now)) (sym c.in-Const.is) (c.slot-in-Const.ensures labels)

pub returns-in-Method : goal.returns-in-Method
returns-in-Method c labels = subst (λ (k : TraitKind). c.numbered.result ≡ line_result (forms.trait_operands c.args.sizes.now k) labels (tokens_of c.args.fields.now)) (sym c.in-Method.is) (c.numbered.ensures labels)

pub returns-in-Getter : goal.returns-in-Getter
returns-in-Getter c labels = subst (λ (k : TraitKind). c.numbered-in-Getter.result ≡ line_result (forms.trait_operands c.args.sizes.now k) labels (tokens_of c.args.fields.now)) (sym c.in-Getter.is) (c.numbered-in-Getter.ensures labels)

pub returns-in-Setter : goal.returns-in-Setter
returns-in-Setter c labels = subst (λ (k : TraitKind). c.numbered-in-Setter.result ≡ line_result (forms.trait_operands c.args.sizes.now k) labels (tokens_of c.args.fields.now)) (sym c.in-Setter.is) (c.numbered-in-Setter.ensures labels)

pub returns-in-Class : goal.returns-in-Class
returns-in-Class c labels = subst (λ (k : TraitKind). c.numbered-in-Class.result ≡ line_result (forms.trait_operands c.args.sizes.now k) labels (tokens_of c.args.fields.now)) (sym c.in-Class.is) (c.numbered-in-Class.ensures labels)

pub returns-in-Function : goal.returns-in-Function
returns-in-Function c labels = subst (λ (k : TraitKind). c.numbered-in-Function.result ≡ line_result (forms.trait_operands c.args.sizes.now k) labels (tokens_of c.args.fields.now)) (sym c.in-Function.is) (c.numbered-in-Function.ensures labels)
