use Rattle.std.proofs.Common.{◌<◌, ◌∙◌, arith, length, get_or}
use Rattle.std.proofs.lemmas.List.{get_or_default}
use Rattle.abc_link_rules.proofs.Counting.{few_times}
use Rattle.abc_link_rules.proofs.times.count_one.Goals as goal

pub overflow_add-index_mut : goal.overflow_add-index_mut
overflow_add-index_mut c =
    let m = get_or c.args.methods.now c.args.place 0 in
    let within : m < length c.args.times.now.items = omega arith in
    let h = few_times c.args.times.now.items c.args.methods.now c.args.place (length c.args.times.now.items) m c.requires.before (omega arith) within in
    let q = c.index_mut.ensures.value ∙ get_or_default c.args.times.now.items m c.index_mut.result.now 0 within in
    omega (arith, h, q)
