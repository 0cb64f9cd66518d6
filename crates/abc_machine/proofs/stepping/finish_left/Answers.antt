use Rattle.abc_machine.proofs.stepping.finish_left.Goals as goal

pub finish_returned-requires : goal.finish_returned-requires
finish_returned-requires g c =
    let r = c.requires.1.1 in
    λ κs among. (among.0, (among.1, (r.0, (r.1.0, (r.1.1.0, (r.1.1.1.0, (r.1.1.1.1.0, (c.in-Some.ensures, r.1.1.1.1.1))))))))

pub finish_any-requires : goal.finish_any-requires
finish_any-requires g c =
    let r = c.requires.1.1 in
    λ κs among. (among.0, (among.1, (r.0, (r.1.0, (r.1.1.0, (r.1.1.1.0, r.1.1.1.1.0))))))
