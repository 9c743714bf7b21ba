use Rattle.std.proofs.Common.{◌≡◌, ◌+◌, ◌∙◌, ℕ, length, ap, subst, arith}
use Rattle.std.proofs.lemmas.List.{length-replicate}
use Rattle.pst_kept_text.specs.Written.{IsAtRest}
use Rattle.pst_kept_text.proofs.WriteLemmas.{adds_nothing, adds_only, beyond, widened}
use Rattle.pst_kept_text.proofs.ReadLemmas.{zero_at}
use Rattle.pst_kept_text.proofs.write.make_room.Goals as goal

pub returns-then-needed-place-clause-same : goal.returns-then-needed-place-clause-same
returns-then-needed-place-clause-same g c clean =
    let s = c.requires.settled in
    let p = c.args.place.now in
    adds_nothing p.base p.end p.room (g.D.Disk.seen c.args.disk.now) s.is_place.begins s.is_place.has_room (s.at_rest clean)

pub returns-then-needed-place-clause-any_return : goal.returns-then-needed-place-clause-any_return
returns-then-needed-place-clause-any_return g c clean left may =
    let s = c.requires.settled in
    let p = c.args.place.now in
    adds_only p.base p.end p.room (g.D.Disk.seen c.args.disk.now) s.is_place.begins s.is_place.has_room (s.at_rest clean) (g.D.Disk.may_leave c.args.disk.now) s.durable left may

pub returns-then-place-gt-MOST-clause-any_return : goal.returns-then-place-gt-MOST-clause-any_return
returns-then-place-gt-MOST-clause-any_return g c clean left may =
    let s = c.requires.settled in
    let p = c.args.place.now in
    adds_only p.base p.end p.room (g.D.Disk.seen c.args.disk.now) s.is_place.begins s.is_place.has_room (s.at_rest clean) (g.D.Disk.may_leave c.args.disk.now) s.durable left may

pub returns-in_err-write_synced-clause-any_return : goal.returns-in_err-write_synced-clause-any_return
returns-in_err-write_synced-clause-any_return g c clean left may =
    let s = c.requires.settled in
    let p = c.args.place.now in
    beyond p.base p.end p.room (g.D.Disk.seen c.args.disk.now) s.is_place.begins s.is_place.has_room (s.at_rest (c.write_synced.ensures.clean clean)) (length c.deref.result.now) left (c.write_synced.ensures.any_return left may).torn

pub returns-clause-any_return : goal.returns-clause-any_return
returns-clause-any_return g c clean left may =
    let s = c.requires.settled in
    let p = c.args.place.now in
    beyond p.base p.end p.room (g.D.Disk.seen c.args.disk.now) s.is_place.begins s.is_place.has_room (s.at_rest (c.write_synced.ensures.clean clean)) (length c.deref.result.now) left (c.write_synced.ensures.any_return left may).torn

pub returns-clause-same : goal.returns-clause-same
returns-clause-same g c clean =
    let s = c.requires.settled in
    let p = c.args.place.now in
    beyond p.base p.end p.room (g.D.Disk.seen c.args.disk.now) s.is_place.begins s.is_place.has_room (s.at_rest (c.write_synced.ensures.clean clean)) (length c.deref.result.now) (g.D.Disk.seen c.write_synced.new.disk) c.in_ok-write_synced.ensures.written.torn

pub returns-clause-settled : goal.returns-clause-settled
returns-clause-settled g c =
    let s = c.requires.settled in
    let p = c.args.place.now in
    let w = c.in_ok-write_synced.ensures.written in
    let n = length c.deref.result.now in
    let value : n ≡ c.args.needed + 262144 = ap length (c.deref.ensures.value ∙ c.in_ok-more.ensures.zeros) ∙ length-replicate {A = ℕ} (c.args.needed + 262144) 0 in
    let long : length c.in_ok-more.more.items ≡ c.args.needed + 262144 = ap length c.in_ok-more.ensures.zeros ∙ length-replicate {A = ℕ} (c.args.needed + 262144) 0 in
    record {
      usable = w.usable;
      durable = w.durable;
      is_place = record { begins = s.is_place.begins; has_room = omega (arith, s.is_place.has_room); small = omega (arith, long) };
      at_rest = λ clean. subst (λ (room : ℕ). IsAtRest p.base p.end room (g.D.Disk.seen c.write_synced.new.disk)) (omega (arith, value, long)) (widened p.base p.end p.room (g.D.Disk.seen c.args.disk.now) s.is_place.begins s.is_place.has_room (s.at_rest (c.write_synced.ensures.clean clean)) c.deref.result.now (g.D.Disk.seen c.write_synced.new.disk) (zero_at _ c.deref.result.now (c.deref.ensures.value ∙ c.in_ok-more.ensures.zeros)) w.torn w.holds);
    }
