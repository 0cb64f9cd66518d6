use Rattle.std.proofs.Common.{leb, leb-true, leb-false, arith, rules}
use Rattle.std.proofs.lemmas.List.Sorted.{IsPartitionPoint-from_clause, IsPartitionedBy-leb}
use Rattle.abc_base_trees.proofs.Pieces.{piece_point}
use Rattle.abc_base_trees.proofs.bounds.piece_of.Goals as goal

pub returns : goal.returns
returns c =
    let parted = IsPartitionedBy-leb (λ b. b) _ c.args.place c.requires in
    let point = IsPartitionPoint-from_clause (λ b. leb b c.args.place) _ _ c.partition_point.ensures.partitioned parted (λ a r q k. search rules) in
    piece_point c.args.bounds.now c.args.place c.partition_point.result c.partition_point.ensures.bound (λ k d h. leb-true _ _ (point.0 k d (omega arith) h)) (λ k d h g. leb-false _ _ (point.1 k d h g))
