use Rattle.std.proofs.Common.{ap, length, refl, subst, ◌∙◌}
use Rattle.abc_base_trees.specs.Classes.{AreTreeClasses}
use Rattle.abc_tidy_entries.specs.Entries.{heads_of}
use Rattle.abc_tidy_entries.specs.Heads.{TellHeads}
use Rattle.abc_tidy_entries.specs.Visited.{roots_of}
use Rattle.abc_tidy_entries.proofs.Building.{few_counts, few_names}
use Rattle.abc_tidy_entries.proofs.Marked.{heads_many, marks_many, told_alike}
use Rattle.abc_tidy_entries.proofs.NodeGraph.{is_graph}
use Rattle.abc_tidy_entries.proofs.Once.{all_within, ordered_all}
use Rattle.abc_tidy_entries.proofs.Ordered.{roots_classed}
use Rattle.abc_tidy.proofs.tidying.class_entries.Goals as goal

pub parts_first-requires-clause-in_range : goal.parts_first-requires-clause-in_range
parts_first-requires-clause-in_range c = is_graph c.args.abc.now c.in_ok-graph.graph c.in_ok-graph.ensures

pub parts_first-requires-clause-roots : goal.parts_first-requires-clause-roots
parts_first-requires-clause-roots c =
    all_within c.args.abc.now c.in_ok-graph.graph c.args.roots c.in_ok-graph.ensures
    c.requires.roots

pub heads_of-requires-clause-few : goal.heads_of-requires-clause-few
heads_of-requires-clause-few c = few_counts c.args.abc.now c.args.counts.now c.requires.counts c.requires.few

pub heads_of-requires-clause-marks : goal.heads_of-requires-clause-marks
heads_of-requires-clause-marks c =
    ap length c.as_slice.ensures ∙ marks_many c.args.abc.now c.in_ok-graph.graph c.len.result (length c.in_ok-marks.marks) c.in_ok-graph.ensures c.len.ensures c.in_ok-marks.ensures.many

pub classes_of-requires : goal.classes_of-requires
classes_of-requires c = heads_many c.args.abc.now c.as_slice.result.now c.in_ok-heads.heads c.in_ok-graph.graph c.in_ok-graph.ensures c.in_ok-heads.ensures

pub check_classes-requires-clause-few : goal.check_classes-requires-clause-few
check_classes-requires-clause-few c = few_names c.args.abc.now c.args.counts.now c.requires.counts c.requires.few

pub check_classes-requires-clause-rooted : goal.check_classes-requires-clause-rooted
check_classes-requires-clause-rooted c = c.requires.roots

pub check_classes-requires-clause-valid : goal.check_classes-requires-clause-valid
check_classes-requires-clause-valid c =
    subst (λ g. AreTreeClasses c.in_ok-heads.heads g c.in_ok-classes.classes.keys.keys c.in_ok-classes.classes.classes) c.in_ok-graph.ensures c.in_ok-classes.ensures.valid

pub check_classes-requires-clause-ordered : goal.check_classes-requires-clause-ordered
check_classes-requires-clause-ordered c = λ holds.
    let roots = c.requires.roots in
    roots_classed c.args.abc.now c.in_ok-graph.graph (roots_of c.args.abc.now) c.in_ok-order.order c.in_ok-classes.classes.classes c.in_ok-graph.ensures refl
    holds (ordered_all c.in_ok-graph.graph c.args.roots (roots_of c.args.abc.now) c.in_ok-order.order roots c.in_ok-order.ensures) c.in_ok-classes.ensures.all

pub returns : goal.returns
returns c = record {
  alike =
      told_alike c.args.abc.now c.in_ok-marks.marks c.in_ok-heads.heads c.in_ok-graph.graph c.in_ok-order.order c.in_ok-classes.classes.classes c.len.result c.in_ok-graph.ensures c.len.ensures c.in_ok-classes.ensures.valid.len
      (subst (λ ms. TellHeads ms 0 c.in_ok-heads.heads (heads_of c.args.abc.now)) c.as_slice.ensures c.in_ok-heads.ensures) c.in_ok-marks.ensures.marked c.in_ok-classes.ensures.only;
  graph_is = c.in_ok-graph.ensures;
  roots_are = c.requires.roots;
  valid = c.in_ok-classes.ensures.valid;
  distinct = c.in_ok-classes.ensures.distinct;
  names = c.in_ok-check_classes.ensures.0;
  classed = c.in_ok-check_classes.ensures.1;
}
