use Rattle.abc_link_names.proofs.Finding.{falling, found}
use Rattle.abc_link_layouts.proofs.layouts.Layouts.layouts_law.Goals as goal

pub returns : goal.returns
returns c = record {
  found = found c.args.abc.now c.args.self.now.parts c.requires.numbering;
  falling = falling c.args.abc.now c.args.self.now.parts c.requires.numbering;
}
