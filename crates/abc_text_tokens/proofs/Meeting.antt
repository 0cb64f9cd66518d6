-- Lines that are met ahead, one more.
use Rattle.std.proofs.Common.{◌≡◌, ℕ, ◌+◌, ◌<◌, ◌≤◌, List, [], ◌∷◌, ◌++◌, length, drop, get_or, Some, None, sym, subst, append-nil, append_assoc, add-one}
use Rattle.std.proofs.Math.Seq.{drop-cons}
use Rattle.std.proofs.lemmas.List.{drop_all}
use Rattle.std.specs.declared.option.Option.{Option}
use Rattle.abc_text_tokens.specs.declared.line.Line.{Line}
use Rattle.abc_text_tokens.specs.Cursor.{Comes, raws_after}
use Rattle.abc_text_tokens.specs.Ahead.{FollowsLine}

-- the first of those that are left
pub first_met : (first : Line) (lines : List Line) (place : ℕ) (d : Line) → place < length lines → FollowsLine (Some first) (drop place lines) → Comes (raws_after first) (first.number + 1) (length first.rest.now) (Some (get_or lines place d)) × FollowsLine (Some (get_or lines place d)) (drop (place + 1) lines)
first_met first lines place d lt met =
    let cut : drop place lines ≡ get_or lines place d ∷ drop (place + 1) lines = rw add-one (drop-cons lines place d lt) in
    subst (λ (l : List Line). FollowsLine (Some first) l) cut met

pub none_met : (o : Option Line) (lines : List Line) (place : ℕ) → length lines ≤ place → FollowsLine o (drop place lines)
none_met o lines place le = subst (λ (l : List Line). FollowsLine o l) (sym (drop_all place lines le)) tt

-- whatever follows the next line goes behind the one that is put
pub one_more : (o : Option Line) (lines : List Line) (line next : Line) → ((more : List Line) → FollowsLine (Some line) more → FollowsLine o (lines ++ more)) → Comes (raws_after line) (line.number + 1) (length line.rest.now) (Some next) → (more : List Line) → FollowsLine (Some next) more → FollowsLine o ((lines ++ next ∷ []) ++ more)
one_more o lines line next all comes more follows =
    subst (λ (l : List Line). FollowsLine o l) (sym (append_assoc lines (next ∷ []) more)) (all (next ∷ more) (comes, follows))

-- nothing follows the last line
pub last_one : (o : Option Line) (lines : List Line) (line : Option Line) → ((more : List Line) → FollowsLine line more → FollowsLine o (lines ++ more)) → (more : List Line) → FollowsLine None more → FollowsLine o (lines ++ more)
last_one o lines line all [] follows = all [] tt
last_one o lines line all (next ∷ more) follows = absurd follows

pub all_met : (o line : Option Line) (lines : List Line) → ((more : List Line) → FollowsLine line more → FollowsLine o (lines ++ more)) → FollowsLine o lines
all_met o line lines all = subst (λ (l : List Line). FollowsLine o l) (append-nil lines) (all [] tt)
