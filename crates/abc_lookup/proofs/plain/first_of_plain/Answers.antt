use Rattle.std.proofs.Common.{◌∙◌, sym}
use Rattle.abc_lookup.proofs.plain.first_of_plain.Goals as goal

pub first_element-requires-clause-array : goal.first_element-requires-clause-array
first_element-requires-clause-array c = sym c.is_array.ensures ∙ c.if-is_array.true

pub first_property-requires-clause-no_array : goal.first_property-requires-clause-no_array
first_property-requires-clause-no_array c = sym c.is_array.ensures ∙ c.if-is_array.false
