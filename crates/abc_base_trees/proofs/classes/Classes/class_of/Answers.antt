use Rattle.std.proofs.Common.{◌≡◌, ◌+◌, ◌<◌, length, get_or, Some, sym, ap, subst, ◌∙◌, arith}
use Rattle.indexmap.specs.IndexSet.{insert_key}
use Rattle.abc_base_graphs.specs.Graph.{leads_to}
use Rattle.abc_base_trees.specs.Classes.{AreTreeClasses, IsBuilt, tree_keys_eq}
use Rattle.abc_base_trees.proofs.Meanings.{built_leaf, built_next, built_all}
use Rattle.abc_base_trees.proofs.classes.Classes.class_of.Goals as goal

pub loop-part-init : goal.loop-part-init
loop-part-init c = record {
  built = built_leaf c.args.heads.now c.args.graph.now c.args.node c.in_ok-class.class c.head_of.result c.args.self.now.keys.keys c.add_key.new.self.keys.keys c.add_key.new.self.classes
      c.requires.distinct (c.in_ok-class.ensures.keys ∙ ap (insert_key tree_keys_eq c.args.self.now.keys.keys) c.key_of_leaf.ensures) (c.in_ok-class.ensures.place ∙ ap Some c.key_of_leaf.ensures) c.head_of.ensures;
  classes = c.in_ok-class.ensures.classes;
  parts = c.parts_of-part-items.ensures;
}

pub loop-part-preserved : goal.loop-part-preserved
loop-part-preserved c =
    let inv = c.loop-part.invariant in
    let i = c.loop-part.part-index in
    let xs = c.parts_of-part-items.result.now in
    record {
      built = subst (λ cs. IsBuilt c.args.heads.now c.args.graph.now c.args.node (i + 1) c.args.self.now.keys.keys c.add_key-in-Some.new.self.keys.keys cs c.in_ok-class-in-Some.class) (sym c.in_ok-class-in-Some.ensures.classes)
          (built_next c.args.heads.now c.args.graph.now c.args.node i c.args.self.now.keys.keys c.loop-part.self.keys.keys c.add_key-in-Some.new.self.keys.keys c.loop-part.self.classes c.loop-part.class c.in_ok-class-in-Some.class c.in-Some.part_class (get_or xs i 0)
          (subst (AreTreeClasses c.args.heads.now c.args.graph.now c.args.self.now.keys.keys) (sym inv.classes) c.requires.valid) inv.built
          (subst (λ ys. i < length ys) inv.parts c.loop-part-test.true) (ap (λ ys. get_or ys i 0) inv.parts) (sym c.in-Some.ensures)
          (c.in_ok-class-in-Some.ensures.keys ∙ ap (insert_key tree_keys_eq c.loop-part.self.keys.keys) c.key_of_apply.ensures) (c.in_ok-class-in-Some.ensures.place ∙ ap Some c.key_of_apply.ensures));
      classes = c.in_ok-class-in-Some.ensures.classes ∙ inv.classes;
      parts = inv.parts;
    }

pub returns-clause-class : goal.returns-clause-class
returns-clause-class c =
    let inv = c.loop-part.invariant in
    let all : c.loop-part.part-index ≡ length (leads_to c.args.graph.now c.args.node) =
    let q : length c.parts_of-part-items.result.now ≡ length (leads_to c.args.graph.now c.args.node) = ap length inv.parts in
    omega (arith, q, c.loop-part-test.false, c.loop-part.auto.part-index-end) in
    built_all c.args.heads.now c.args.graph.now c.args.node c.loop-part.part-index c.args.self.now.keys.keys c.loop-part.self.keys.keys c.loop-part.self.classes c.loop-part.class inv.built all
