use Rattle.abc_link_names.proofs.SameKeys.{same_keys}
use Rattle.abc_link_names.proofs.names.Names.keys_tell_names.Goals as goal

pub returns : goal.returns
returns c = λ a b. same_keys c.args.self.now.abc.now c.args.self.now.tables.now a b c.args.self.now.sound
