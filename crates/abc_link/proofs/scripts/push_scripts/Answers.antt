use Rattle.std.proofs.Common.{◌≡◌, ◌∙◌, ◌<◌, ◌++◌, List, length, get_or, map, ap, arith}
use Rattle.abc_link.specs.ScriptTraits.{keys_of}
use Rattle.abc_link.proofs.ScriptPlaces.{keys_next, owners_next}
use Rattle.abc_file_types.specs.declared.classes.Script.{Script}
use Rattle.abc_file_types.specs.declared.traits.TraitInfo.{TraitInfo}
use Rattle.abc_link.proofs.scripts.push_scripts.Goals as goal

pub loop-script-preserved : goal.loop-script-preserved
loop-script-preserved c =
    let s = c.entry-item.result in
    let ss = c.args.abc.now.scripts in
    let lt : c.loop-script.script < length ss = omega (arith, c.loop-script-test.true, ap length c.as_slice-entry-items.ensures) in
    let is : s ≡ get_or ss c.loop-script.script s = c.entry-item.is ∙ ap (λ (rs : List Script). get_or rs c.loop-script.script s) c.as_slice-entry-items.ensures in
    record {
      keys = keys_next c.args.abc.now c.args.numbers.now c.loop-script.keys.items c.push_script.new.keys.items ss c.loop-script.script s lt is c.loop-script.invariant.keys (c.in_ok-push_script.ensures.keys ∙ ap (λ (ts : List TraitInfo). c.loop-script.keys.items ++ keys_of c.args.abc.now c.args.numbers.now ts) c.as_slice.ensures);
      owners = owners_next c.loop-script.owners c.push_script.new.owners ss c.loop-script.script s lt is c.loop-script.invariant.owners (c.in_ok-push_script.ensures.owners ∙ ap (λ (ts : List TraitInfo). c.loop-script.owners ++ map (λ (t : TraitInfo). c.loop-script.script) ts) c.as_slice.ensures);
    }
