use Rattle.std.proofs.Common.{◌∷◌, [], length, refl, ap, ◌∙◌, arith, length-append}
use Rattle.abc_base_trees.proofs.Hanging.{adds_one}
use Rattle.abc_base_trees.proofs.stabs.Stabs.hang_at.Goals as goal

pub returns : goal.returns
returns c =
    let long = ap length c.in_ok-push.ensures.ok ∙ length-append c.args.self.now.hangs (record { number = c.args.number; next = c.first-next.result } ∷ []) in
    let last = c.len-2.ensures in
    adds_one c.args.self.now _ c.args.node c.args.number c.len-2.result (record { number = c.args.number; next = c.first-next.result }) c.args.self.now.whole c.requires.inside refl c.first-next.ensures refl (omega arith) c.set.ensures c.in_ok-push.ensures.ok
