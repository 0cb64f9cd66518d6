-- The examples of the meaning, by evaluation.
use Rattle.std.proofs.Common.{refl}
use Rattle.std.specs.Fmt.{digits}
use Rattle.std.specs.Int.{int_wrap}
use Rattle.abc_base_graphs.specs.Ways.{way}
use Rattle.abc_objects.specs.Candidates.{answer_of_search}
use Rattle.abc_objects.specs.Searches.{declared_found, found_in_scopes, found_on}
use Rattle.abc_heap_values.specs.Modular.{modulo_unsigned}
use Rattle.abc_verify_typing.specs.Rows.{row_at, table_of_rows}
use Rattle.abc_meaning.specs.Examples.{RunExamples, WaitExamples}
use Rattle.abc_meaning.specs.Meaning.{meaning}
use Rattle.abc_meaning.specs.StuckExamples.{StuckExamples}
use Rattle.abc_meaning.specs.Table.{act_of, acts}

pub run_examples : RunExamples
unfolding meaning acts act_of table_of_rows row_at way answer_of_search declared_found found_on found_in_scopes digits modulo_unsigned int_wrap
run_examples = record {
  returns = refl;
  spent = refl;
  no_frame = refl;
  too_small = refl;
  no_number = refl;
  throws = refl;
  no_room = refl;
  says_hi = refl;
  public_property = refl;
  with_scope = refl;
  plain_scope = refl;
  elements = refl;
  caught = refl;
  started = refl;
  accessed = refl;
  closed_over = refl;
  made_of_getter = refl;
  two_more = refl;
  made = refl;
  no_cell = refl;
}

pub wait_examples : WaitExamples
unfolding acts act_of table_of_rows row_at way answer_of_search declared_found found_on found_in_scopes digits modulo_unsigned int_wrap
wait_examples = record {
  pushes = refl;
  getter_pushes = refl;
  setter_drops = refl;
  keeps_class = (_, refl);
  keeps_instance = (_, refl);
  starts_again = refl;
  makes_then = refl;
}

pub stuck_examples : StuckExamples
unfolding acts act_of table_of_rows row_at way answer_of_search declared_found found_on found_in_scopes
stuck_examples = record {
  method_without_body = (refl, refl);
  past_the_code = (refl, refl);
  no_row = (refl, refl);
  in_table = (refl, refl);
  has_form = (refl, refl);
  value_to_take = (refl, refl);
  room_for_value = (refl, refl);
  scope_to_pop = (refl, refl);
  room_for_scope = (refl, refl);
  local_there = (refl, refl);
  index_in_local = (refl, refl);
  scope_there = (refl, refl);
  stands_here = (refl, refl);
  super_in_instance = (refl, refl);
  super_in_maker = (refl, refl);
  space_taken = (refl, refl);
  index_taken = (refl, refl);
  object_taken = (refl, refl);
  slot_taken = (refl, refl);
  instance_taken = (refl, refl);
  called_has_body = (refl, refl);
  waits_for = (refl, refl);
  room_for_caught = (refl, refl);
}
