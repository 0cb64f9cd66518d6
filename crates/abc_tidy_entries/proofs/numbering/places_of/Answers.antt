use Rattle.std.proofs.Common.{◌≡◌, ℕ, ◌<◌, length, Some, sym, ap, subst, ◌∙◌}
use Rattle.abc_base_trees.specs.Classes.{tree_class}
use Rattle.abc_tidy_entries.proofs.Firsts.{at_zero}
use Rattle.abc_tidy_entries.proofs.Numbered.{class_small, noted_length, place_noted, places_begin, replicate_many}
use Rattle.abc_tidy_entries.proofs.numbering.places_of.Goals as goal

pub note_place-requires : goal.note_place-requires
note_place-requires c = λ d e.
    subst (λ n. d < n) (sym c.loop-i.invariant.1)
    (class_small c.args._heads.now c.args._graph.now c.args.classes.now.keys.keys c.args.classes.now.classes c.get.result.now d c.requires.valid (sym c.class-class.ensures ∙ e))

pub loop-i-init : goal.loop-i-init
loop-i-init c = (
  places_begin c.args.classes.now.classes c.args.seen.now c.in_ok-places.places,
  ap length c.in_ok-places.ensures ∙ replicate_many c.len.result 0 ∙ c.len.ensures.len,
)

pub loop-i-preserved : goal.loop-i-preserved
loop-i-preserved c =
    let small : (d : ℕ) → c.class-class.result ≡ Some d → d < length c.loop-i.places = λ d e.
    subst (λ n. d < n) (sym c.loop-i.invariant.1)
    (class_small c.args._heads.now c.args._graph.now c.args.classes.now.keys.keys c.args.classes.now.classes c.get.result.now d c.requires.valid (sym c.class-class.ensures ∙ e)) in
    let lt : c.loop-i.i < length c.args.seen.now = subst (λ n. c.loop-i.i < n) c.len-i-end.ensures c.loop-i-test.true in (
      place_noted c.args.classes.now.classes c.args.seen.now c.loop-i.places c.note_place.new.places c.loop-i.i c.class-class.result c.requires.apart c.loop-i.invariant.0 lt
          (c.class-class.ensures ∙ ap (tree_class c.args.classes.now.classes) (at_zero c.args.seen.now c.loop-i.i c.get.result.now lt c.get.ensures)) small c.note_place.ensures,
      ap length c.note_place.ensures ∙ noted_length c.loop-i.places c.class-class.result c.loop-i.i ∙ c.loop-i.invariant.1,
    )
