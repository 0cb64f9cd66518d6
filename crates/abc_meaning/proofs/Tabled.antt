-- The table of acts.
use Rattle.std.proofs.Common.{◌≡◌, ℕ, List, [], ◌∷◌, subst}
use Rattle.std.specs.Prelude.{Bool, true, false, nat_eq, Some, if◌then◌else◌}
use Rattle.abc_base.specs.declared.names.Fault.TheVariants as faults
use Rattle.abc_heap_values.specs.declared.values.Value.TheVariants as values
use Rattle.abc_heap_values.specs.declared.numbers.Conversion.TheVariants.{ConvertS, ConvertI, ConvertU, ConvertD, ConvertB, ConvertO, CoerceS}
use Rattle.abc_heap_values.specs.declared.numbers.Conversion.{Conversion}
use Rattle.abc_verify_typing.specs.Lists.{Each}
use Rattle.abc_meaning.specs.World.{Faults, Throws, World}
use Rattle.abc_meaning.specs.At.{ActCase, Doing, does_nothing, opcode_at}
use Rattle.abc_meaning.specs.Simple.{converting, where_not, where_so}
use Rattle.abc_meaning.specs.Table.{act_of, acts, call_acts, class_acts, find_act, jumping_acts, object_acts, operation_acts, plain_acts, walking_acts}
use Rattle.abc_meaning.specs.Walking.{position, object_of}
use Rattle.abc_meaning.proofs.Acting.{activation_quiet, and_reads_once, array_quiet, calls_super_once, came_once, came_quiet, catch_quiet, class_quiet, coerces_operand_quiet, constructs_quiet, counts_quiet, drops_once, drops_quiet, flag_quiet, function_quiet, gives_quiet, has_name_quiet, has_next2_quiet, instance_quiet, late_quiet, local_quiet, makes_of_quiet, name_quiet, name_in_quiet, object_quiet, or_global_once, reads_slot_quiet, reads_super_quiet, returns_quiet, scope_object_quiet, scoped_quiet, strictly_once, switches_quiet, take_one_once, take_one_quiet, take_two_once, take_two_quiet, type_quiet, writes_slot_quiet, writes_super_quiet}
use Rattle.abc_meaning.proofs.Adding.{Once, Quiet, done_quiet, once, stop_quiet, then_once, then_quiet}
use Rattle.abc_meaning.proofs.Entering.{compares_quiet, converts_quiet, one_quiet, two_quiet}
use Rattle.abc_meaning.proofs.Members.{calls_name_once, deletes_quiet, reads_quiet, writes_to_quiet}
use Rattle.abc_meaning.proofs.Values.{calls_once, new_quiet}

pub record ActOnce (d : Doing) : Type 0 where
  pub is : (w : World) (a : ActCase) → Once w (d a w)

abbrev EntryOnce : ℕ × Doing → Type 0
EntryOnce e = ActOnce e.1

abbrev AllOnce : List (ℕ × Doing) → Type 0
AllOnce ds = Each EntryOnce ds

-- ---- acts of one shape

nothing_quiet : (w : World) (a : ActCase) → Quiet w (does_nothing a w)
nothing_quiet w a = done_quiet w _

so_quiet : (comparison : ℕ) (w : World) (a : ActCase) → Quiet w (where_so comparison a w)
so_quiet comparison w a = then_quiet w _ _ (take_two_quiet w a.values _ (λ x y. compares_quiet a.setting w comparison x y)) (λ n b. done_quiet n _)

not_quiet : (comparison : ℕ) (w : World) (a : ActCase) → Quiet w (where_not comparison a w)
not_quiet comparison w a = then_quiet w _ _ (then_quiet w _ _ (take_two_quiet w a.values _ (λ x y. compares_quiet a.setting w comparison x y)) (λ n b. done_quiet n _)) (λ n b. done_quiet n _)

converting_quiet : (to : Conversion) (w : World) (a : ActCase) → Quiet w (converting to a w)
converting_quiet to w a = gives_quiet w a _ (take_one_quiet w a.values _ (λ v. converts_quiet a.setting w to v))

-- ---- the groups of the table

-- an act, and those behind it
also : {d : Doing} {R : Type 0} → ((w : World) (a : ActCase) → Quiet w (d a w)) → R → ActOnce d × R
also f more = (record { is = λ w a. once w _ (f w a) }, more)

-- one that may write, or start a script
also_once : {d : Doing} {R : Type 0} → ((w : World) (a : ActCase) → Once w (d a w)) → R → ActOnce d × R
also_once f more = (record { is = f }, more)

jumping_once : (rest : List (ℕ × Doing)) → AllOnce rest → AllOnce (jumping_acts rest)
jumping_once rest more =
    also nothing_quiet
    (also nothing_quiet
    (also nothing_quiet
    (also nothing_quiet
    (also nothing_quiet
    (also (λ w a. take_one_quiet w a.values _ (λ v. stop_quiet w (Throws v)))
    (also (λ w a. returns_quiet w a.setting a.frame values.Undefined)
    (also (λ w a. take_one_quiet w a.values _ (λ v. returns_quiet w a.setting a.frame v))
    (also (not_quiet 0xAD)
    (also (not_quiet 0xAE)
    (also (not_quiet 0xAF)
    (also (not_quiet 0xB0)
    (also (λ w a. done_quiet w _)
    (also (λ w a. then_quiet w _ _ (take_one_quiet w a.values _ (λ v. done_quiet w _)) (λ n b. done_quiet n _))
    (also (λ w a. then_quiet w _ _ (take_one_quiet w a.values _ (λ v. done_quiet w _)) (λ n b. done_quiet n _))
    (also (so_quiet 0xAB)
    (also (not_quiet 0xAB)
    (also (so_quiet 0xAD)
    (also (so_quiet 0xAE)
    (also (so_quiet 0xAF)
    (also (so_quiet 0xB0)
    (also (so_quiet 0xAC)
    (also (not_quiet 0xAC)
    (also switches_quiet
    more)))))))))))))))))))))))

plain_once : (rest : List (ℕ × Doing)) → AllOnce rest → AllOnce (plain_acts rest)
plain_once rest more =
    also (λ w a. take_one_quiet w a.values _ (λ v. scoped_quiet w true a.rest v))
    (also (λ w a. take_one_quiet w a.values _ (λ v. scoped_quiet w false a.rest v))
    (also (λ w a. done_quiet w _)
    (also (λ w a. gives_quiet w a _ (done_quiet w _))
    (also (λ w a. gives_quiet w a _ (done_quiet w _))
    (also (λ w a. gives_quiet w a _ (done_quiet w _))
    (also (λ w a. gives_quiet w a _ (done_quiet w _))
    (also (λ w a. gives_quiet w a _ (done_quiet w _))
    (also (λ w a. gives_quiet w a _ (done_quiet w _))
    (also (λ w a. stop_quiet w (Faults faults.NotANumber))
    (also (λ w a. stop_quiet w (Faults faults.Double))
    (also (λ w a. gives_quiet w a _ (done_quiet w _))
    (also (λ w a. gives_quiet w a _ (done_quiet w _))
    (also (λ w a. gives_quiet w a _ (done_quiet w _))
    (also (λ w a. gives_quiet w a _ (done_quiet w _))
    (also nothing_quiet
    (also (λ w a. take_one_quiet w a.values _ (λ v. done_quiet w _))
    (also (λ w a. take_two_quiet w a.values _ (λ x y. done_quiet w _))
    (also (λ w a. gives_quiet w a _ (local_quiet w a))
    (also (λ w a. gives_quiet w a _ (local_quiet w a))
    (also (λ w a. gives_quiet w a _ (local_quiet w a))
    (also (λ w a. gives_quiet w a _ (local_quiet w a))
    (also (λ w a. gives_quiet w a _ (local_quiet w a))
    (also (λ w a. take_one_quiet w a.values _ (λ v. done_quiet w _))
    (also (λ w a. take_one_quiet w a.values _ (λ v. done_quiet w _))
    (also (λ w a. take_one_quiet w a.values _ (λ v. done_quiet w _))
    (also (λ w a. take_one_quiet w a.values _ (λ v. done_quiet w _))
    (also (λ w a. take_one_quiet w a.values _ (λ v. done_quiet w _))
    (also (λ w a. done_quiet w _)
    (also (λ w a. gives_quiet w a _ (done_quiet w _))
    (also (λ w a. gives_quiet w a _ (scope_object_quiet w a))
    more))))))))))))))))))))))))))))))

operation_once : (rest : List (ℕ × Doing)) → AllOnce rest → AllOnce (operation_acts rest)
operation_once rest more =
    also (converting_quiet ConvertS)
    (also (converting_quiet ConvertI)
    (also (converting_quiet ConvertU)
    (also (converting_quiet ConvertD)
    (also (converting_quiet ConvertB)
    (also (converting_quiet ConvertO)
    (also (converting_quiet CoerceS)
    (also (λ w a. gives_quiet w a _ (coerces_operand_quiet w a))
    (also (λ w a. gives_quiet w a _ (take_one_quiet w a.values _ (λ v. done_quiet w v)))
    (also (λ w a. gives_quiet w a _ (take_one_quiet w a.values _ (λ v. then_quiet w _ _ (type_quiet w a) (λ n t. done_quiet n _))))
    (also (λ w a. gives_quiet w a _ (take_one_quiet w a.values _ (λ v. then_quiet w _ _ (type_quiet w a) (λ n t. done_quiet n _))))
    (also (λ w a. gives_quiet w a _ (take_two_quiet w a.values _ (λ v c. then_quiet w _ _ (late_quiet w a.setting c) (λ n t. done_quiet n _))))
    (also (λ w a. gives_quiet w a _ (take_two_quiet w a.values _ (λ v c. then_quiet w _ _ (late_quiet w a.setting c) (λ n t. done_quiet n _))))
    (also (λ w a. gives_quiet w a _ (instance_quiet w a))
    (also (λ w a. gives_quiet w a _ (has_name_quiet w a))
    (also (λ w a. gives_quiet w a _ (take_one_quiet w a.values _ (λ v. one_quiet a.setting w (opcode_at a) v)))
    (also (λ w a. gives_quiet w a _ (take_one_quiet w a.values _ (λ v. one_quiet a.setting w (opcode_at a) v)))
    (also (λ w a. gives_quiet w a _ (take_one_quiet w a.values _ (λ v. one_quiet a.setting w (opcode_at a) v)))
    (also (λ w a. gives_quiet w a _ (take_one_quiet w a.values _ (λ v. one_quiet a.setting w (opcode_at a) v)))
    (also (λ w a. gives_quiet w a _ (take_one_quiet w a.values _ (λ v. one_quiet a.setting w (opcode_at a) v)))
    (also (λ w a. gives_quiet w a _ (take_one_quiet w a.values _ (λ v. one_quiet a.setting w (opcode_at a) v)))
    (also (λ w a. gives_quiet w a _ (take_one_quiet w a.values _ (λ v. one_quiet a.setting w (opcode_at a) v)))
    (also (λ w a. gives_quiet w a _ (take_one_quiet w a.values _ (λ v. one_quiet a.setting w (opcode_at a) v)))
    (also (λ w a. gives_quiet w a _ (take_one_quiet w a.values _ (λ v. one_quiet a.setting w (opcode_at a) v)))
    (also (λ w a. counts_quiet w 0x91 a)
    (also (λ w a. counts_quiet w 0x93 a)
    (also (λ w a. counts_quiet w 0xC0 a)
    (also (λ w a. counts_quiet w 0xC1 a)
    (also (λ w a. gives_quiet w a _ (take_two_quiet w a.values _ (λ x y. two_quiet a.setting w (opcode_at a) x y)))
    (also (λ w a. gives_quiet w a _ (take_two_quiet w a.values _ (λ x y. two_quiet a.setting w (opcode_at a) x y)))
    (also (λ w a. gives_quiet w a _ (take_two_quiet w a.values _ (λ x y. two_quiet a.setting w (opcode_at a) x y)))
    (also (λ w a. gives_quiet w a _ (take_two_quiet w a.values _ (λ x y. two_quiet a.setting w (opcode_at a) x y)))
    (also (λ w a. gives_quiet w a _ (take_two_quiet w a.values _ (λ x y. two_quiet a.setting w (opcode_at a) x y)))
    (also (λ w a. gives_quiet w a _ (take_two_quiet w a.values _ (λ x y. two_quiet a.setting w (opcode_at a) x y)))
    (also (λ w a. gives_quiet w a _ (take_two_quiet w a.values _ (λ x y. two_quiet a.setting w (opcode_at a) x y)))
    (also (λ w a. gives_quiet w a _ (take_two_quiet w a.values _ (λ x y. two_quiet a.setting w (opcode_at a) x y)))
    (also (λ w a. gives_quiet w a _ (take_two_quiet w a.values _ (λ x y. two_quiet a.setting w (opcode_at a) x y)))
    (also (λ w a. gives_quiet w a _ (take_two_quiet w a.values _ (λ x y. two_quiet a.setting w (opcode_at a) x y)))
    (also (λ w a. gives_quiet w a _ (take_two_quiet w a.values _ (λ x y. two_quiet a.setting w (opcode_at a) x y)))
    (also (λ w a. gives_quiet w a _ (take_two_quiet w a.values _ (λ x y. two_quiet a.setting w (opcode_at a) x y)))
    (also (λ w a. gives_quiet w a _ (take_two_quiet w a.values _ (λ x y. two_quiet a.setting w (opcode_at a) x y)))
    (also (λ w a. gives_quiet w a _ (take_two_quiet w a.values _ (λ x y. two_quiet a.setting w (opcode_at a) x y)))
    (also (λ w a. gives_quiet w a _ (flag_quiet w _ (take_two_quiet w a.values _ (λ x y. compares_quiet a.setting w (opcode_at a) x y))))
    (also (λ w a. gives_quiet w a _ (flag_quiet w _ (take_two_quiet w a.values _ (λ x y. compares_quiet a.setting w (opcode_at a) x y))))
    (also (λ w a. gives_quiet w a _ (flag_quiet w _ (take_two_quiet w a.values _ (λ x y. compares_quiet a.setting w (opcode_at a) x y))))
    (also (λ w a. gives_quiet w a _ (flag_quiet w _ (take_two_quiet w a.values _ (λ x y. compares_quiet a.setting w (opcode_at a) x y))))
    (also (λ w a. gives_quiet w a _ (flag_quiet w _ (take_two_quiet w a.values _ (λ x y. compares_quiet a.setting w (opcode_at a) x y))))
    (also (λ w a. gives_quiet w a _ (flag_quiet w _ (take_two_quiet w a.values _ (λ x y. compares_quiet a.setting w (opcode_at a) x y))))
    more)))))))))))))))))))))))))))))))))))))))))))))))

walking_once : (rest : List (ℕ × Doing)) → AllOnce rest → AllOnce (walking_acts rest)
walking_once rest more =
    also (λ w a. gives_quiet w a _ (take_two_quiet w a.values _ (λ o i. name_in_quiet w (object_of o w) (position i))))
    (also (λ w a. gives_quiet w a _ (take_two_quiet w a.values _ (λ o i. done_quiet w _)))
    (also (λ w a. gives_quiet w a _ (take_two_quiet w a.values _ (λ o i. done_quiet w _)))
    (also has_next2_quiet
    more)))

object_once : (rest : List (ℕ × Doing)) → AllOnce rest → AllOnce (object_acts rest)
object_once rest more =
    also (λ w a. gives_quiet w a _ (object_quiet w a))
    (also (λ w a. gives_quiet w a _ (array_quiet w a))
    (also_once strictly_once
    (also_once or_global_once
    (also_once and_reads_once
    (also (λ w a. came_quiet w a _ (take_one_quiet w a.values _ (λ o. then_quiet w _ _ (name_quiet w a) (λ n name. reads_quiet a.setting n o name))))
    (also (λ w a. drops_quiet w a _ (take_two_quiet w a.values _ (λ o v. then_quiet w _ _ (name_quiet w a) (λ n name. writes_to_quiet a.setting n o name v false))))
    (also (λ w a. drops_quiet w a _ (take_two_quiet w a.values _ (λ o v. then_quiet w _ _ (name_quiet w a) (λ n name. writes_to_quiet a.setting n o name v true))))
    (also (λ w a. gives_quiet w a _ (flag_quiet w _ (take_one_quiet w a.values _ (λ o. then_quiet w _ _ (name_quiet w a) (λ n name. deletes_quiet a.setting n o name)))))
    (also (λ w a. gives_quiet w a _ (reads_slot_quiet w a))
    (also writes_slot_quiet
    more))))))))))

call_once : (rest : List (ℕ × Doing)) → AllOnce rest → AllOnce (call_acts rest)
call_once rest more =
    also_once (λ w a. came_once w a _ (take_two_once w a.values _ (λ f r. calls_once a.setting w f r a.args)))
    (also (λ w a. came_quiet w a _ (take_one_quiet w a.values _ (λ c. new_quiet a.setting w c a.args)))
    (also_once (λ w a. came_once w a _ (take_one_once w a.values _ (λ o. then_once w _ _ (name_quiet w a) (λ n name. calls_name_once a.setting n o o name a.args))))
    (also_once (λ w a. came_once w a _ (take_one_once w a.values _ (λ o. then_once w _ _ (name_quiet w a) (λ n name. calls_name_once a.setting n o values.Null name a.args))))
    (also_once (λ w a. drops_once w a _ (take_one_once w a.values _ (λ o. then_once w _ _ (name_quiet w a) (λ n name. calls_name_once a.setting n o o name a.args))))
    (also (λ w a. take_one_quiet w a.values _ (λ o. then_quiet w _ _ (then_quiet w _ _ (name_quiet w a) (λ n name. reads_quiet a.setting n o name)) (λ i c. makes_of_quiet i a _ (λ j v. new_quiet a.setting j v a.args) c)))
    more)))))

class_once : (rest : List (ℕ × Doing)) → AllOnce rest → AllOnce (class_acts rest)
class_once rest more =
    also (λ w a. came_quiet w a _ (reads_super_quiet w a))
    (also (λ w a. drops_quiet w a _ (writes_super_quiet w a))
    (also_once (λ w a. came_once w a _ (calls_super_once w a))
    (also_once (λ w a. drops_once w a _ (calls_super_once w a))
    (also (λ w a. drops_quiet w a _ (constructs_quiet w a))
    (also (λ w a. gives_quiet w a _ (function_quiet w a))
    (also (λ w a. gives_quiet w a _ (activation_quiet w a))
    (also class_quiet
    (also (λ w a. gives_quiet w a _ (catch_quiet w a))
    more))))))))

all_once : AllOnce acts
unfolding acts
all_once =
    let calls = call_acts (class_acts []) in
    let walks = walking_acts (object_acts calls) in
    jumping_once (plain_acts (operation_acts walks))
    (plain_once (operation_acts walks) (operation_once walks (walking_once (object_acts calls) (object_once calls (call_once (class_acts []) (class_once [] tt))))))

found_once : (o : ℕ) (ds : List (ℕ × Doing)) (d : Doing) → AllOnce ds → find_act o ds ≡ Some d → ActOnce d
found_once o [] d a e = absurd cc
found_once o (x ∷ ds) d a e = go (λ q. found_once o ds d a.1 q) (nat_eq o x.0) e
  where
    go : (find_act o ds ≡ Some d → ActOnce d) → (b : Bool) → (if b then Some x.1 else find_act o ds) ≡ Some d → ActOnce d
    go more true q = let same : x.1 ≡ d = cc in subst ActOnce same a.0
    go more false q = more q

-- whatever the opcode
pub act_once : (o : ℕ) (d : Doing) → act_of o ≡ Some d → ActOnce d
unfolding act_of
act_once o d e = found_once o acts d all_once e
