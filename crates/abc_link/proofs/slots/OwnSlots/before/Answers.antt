use Rattle.std.proofs.Common.{◌≡◌, ◌∙◌, ℕ, List, length, get_or, sym, ap, arith}
use Rattle.std.specs.Prelude.{slice_get}
use Rattle.abc_link_names.specs.Numbering.{part_at}
use Rattle.abc_link_names.specs.Slots.{traits_of}
use Rattle.abc_link.specs.OwnSlots.{slots_before}
use Rattle.abc_link.proofs.Rows.{row_length, row_of, there}
use Rattle.abc_link.proofs.slots.OwnSlots.before.Goals as goal

pub get-requires-2 : goal.get-requires-2
get-requires-2 c =
    let row = c.get.result.now in
    let ts = traits_of c.args.abc.now (part_at c.args.layouts.now.parts c.args.layout) in
    let is : row ≡ slots_before ts = row_of c.args.abc.now c.args.layouts.now.parts c.args.layout row c.requires.layout (ap (λ (rs : List (List ℕ)). get_or rs c.args.layout row) (sym c.requires.slots.rows) ∙ c.get.ensures) in
    omega (arith, ap length is, row_length 0 ts, c.requires.place)

pub returns : goal.returns
returns c =
    let row = c.get.result.now in
    let ts = traits_of c.args.abc.now (part_at c.args.layouts.now.parts c.args.layout) in
    let is : row ≡ slots_before ts = row_of c.args.abc.now c.args.layouts.now.parts c.args.layout row c.requires.layout (ap (λ (rs : List (List ℕ)). get_or rs c.args.layout row) (sym c.requires.slots.rows) ∙ c.get.ensures) in
    ap (λ (rs : List ℕ). slice_get rs c.args.place) (sym is) ∙ there row c.args.place c.get-2.result.now (omega (arith, ap length is, row_length 0 ts, c.requires.place)) c.get-2.ensures
