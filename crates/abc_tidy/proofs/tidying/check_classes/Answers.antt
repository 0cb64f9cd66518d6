use Rattle.std.proofs.Common.{refl, subst}
use Rattle.abc_base_trees.specs.Classes.{AllClassed}
use Rattle.abc_tidy_entries.specs.Visited.{roots_of}
use Rattle.abc_tidy_entries.proofs.Acyclic.{acyclic}
use Rattle.abc_tidy_entries.proofs.Once.{all_classed}
use Rattle.abc_tidy.proofs.tidying.check_classes.Goals as goal

pub returns-then-have : goal.returns-then-have
returns-then-have c =
    let named : AllClassed c.args.classes.now.classes c.args.roots.now = subst (AllClassed c.args.classes.now.classes) c.as_slice.ensures (c.if-have.ensures.0 refl) in
    let all : AllClassed c.args.classes.now.classes (roots_of c.args.abc.now) = all_classed c.args.classes.now.classes (roots_of c.args.abc.now) (subst (AllClassed c.args.classes.now.classes) c.requires.rooted named) in
    (acyclic c.args.abc.now c.args._heads.now c.args.classes.now.keys.keys c.args.classes.now.classes (roots_of c.args.abc.now) refl c.requires.valid all, all)

pub returns : goal.returns
returns c = (c.in_ok-check_names.ensures, c.requires.ordered c.in_ok-check_names.ensures)
