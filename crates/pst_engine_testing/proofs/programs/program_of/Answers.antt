use Rattle.pst_engine_testing.proofs.programs.program_of.Goals as goal

pub check-requires : goal.check-requires
check-requires c =
    let has = c.in_ok-tree.ensures.lexed in
    let found = c.in_ok-tree.ensures.found (record { list = has.0; end = has.1 }) has.2 in
    record { height = found.2.height; nesting = found.2.nesting }
