use Rattle.std.proofs.Common.{◌∙◌, sym, arith}
use Rattle.abc_run_calls.proofs.keeping.is_in_place.Goals as goal

pub stands_under-requires : goal.stands_under-requires
stands_under-requires c = let all = c.is_one_more.ensures c.if-not-is_one_more.false in let fits = c.requires in omega (arith, all, fits)

pub are_of_types-requires-clause-there : goal.are_of_types-requires-clause-there
are_of_types-requires-clause-there c = let all = c.is_one_more.ensures c.if-not-is_one_more.false in let fits = c.requires in omega (arith, all, fits)

pub are_of_types-requires-clause-many : goal.are_of_types-requires-clause-many
are_of_types-requires-clause-many c = c.has_all.ensures c.if-not-has_all.false

pub returns : goal.returns
returns c = λ e. record {
  all = c.is_one_more.ensures c.if-not-is_one_more.false;
  receiver = c.stands_under.ensures c.if-not-stands_under.false;
  many = c.has_all.ensures c.if-not-has_all.false;
  alone = sym c.takes_array.ensures ∙ c.if-takes_array.false;
  given = c.are_of_types.ensures e;
}
