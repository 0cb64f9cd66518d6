use Rattle.std.proofs.Common.{◌<◌, length, MatchOption, sym, subst, arith}
use Rattle.abc_base_trees.specs.Classes.{AreTreeClasses, HasUnclassed, IsClassOf}
use Rattle.abc_base_trees.proofs.Meanings.{extended, settled}
use Rattle.abc_base_trees.proofs.classes.Classes.settle.Goals as goal

pub returns-in-Some-clause-valid : goal.returns-in-Some-clause-valid
returns-in-Some-clause-valid c =
    let keys = c.class_of.new.self.keys.keys in
    let classes = c.class_of.new.self.classes in
    let within : c.args.node < length c.args.graph.now = omega (arith, c.if-node-len.false, c.len.ensures) in
    let valid : AreTreeClasses c.args.heads.now c.args.graph.now keys classes =
    subst (AreTreeClasses c.args.heads.now c.args.graph.now keys) (sym c.in_ok-class.ensures.classes)
    (extended c.args.heads.now c.args.graph.now c.args.self.now.keys.keys keys c.args.self.now.classes c.requires.valid c.in_ok-class.ensures.extends) in
    let is : IsClassOf c.args.heads.now c.args.graph.now c.args.node keys classes c.in-Some.class =
    subst (λ r. MatchOption r (HasUnclassed c.args.graph.now c.args.node classes) (IsClassOf c.args.heads.now c.args.graph.now c.args.node keys classes)) c.in-Some.is c.in_ok-class.ensures.class in
    subst (AreTreeClasses c.args.heads.now c.args.graph.now keys) (sym c.set.ensures) (settled c.args.heads.now c.args.graph.now keys classes c.args.node c.in-Some.class valid within is)

pub returns-in_default-clause-valid : goal.returns-in_default-clause-valid
returns-in_default-clause-valid c =
    let keys = c.class_of.new.self.keys.keys in
    subst (AreTreeClasses c.args.heads.now c.args.graph.now keys) (sym c.in_ok-class.ensures.classes)
    (extended c.args.heads.now c.args.graph.now c.args.self.now.keys.keys keys c.args.self.now.classes c.requires.valid c.in_ok-class.ensures.extends)
