use Rattle.std.proofs.Common.{ℕ, length, subst, ◌∙◌, ap, arith}
use Rattle.std.proofs.lemmas.Result.{on_ok_weaker}
use Rattle.std.proofs.lemmas.List.{length-replicate}
use Rattle.pst_kept_text.proofs.ReadLemmas.{zero_at}
use Rattle.sqlite_disk.proofs.EventLemmas.{Mixed-held}
use Rattle.pst_kept_text.specs.Written.{IsAtRest}
use Rattle.pst_kept_text.proofs.WriteLemmas.{clearing, cleared}
use Rattle.pst_kept_text.proofs.write.clear.Goals as goal

pub returns-clause-any_return : goal.returns-clause-any_return
returns-clause-any_return g c clean left may =
    let p = c.args.place in
    let f = g.D.Disk.seen c.args.disk.now in
    let was = c.write_synced.ensures.clean clean in
    let len = c.requires.len was in
    clearing p.base p.end f c.requires.place.begins (omega (arith, len, c.requires.place.has_room)) (c.requires.text was) c.deref.result.now (zero_at _ c.deref.result.now (c.deref.ensures.value ∙ c.in_ok-none.ensures.zeros)) (omega (arith, len, ap length (c.deref.ensures.value ∙ c.in_ok-none.ensures.zeros), length-replicate {A = ℕ}, c.requires.place.has_room)) (c.requires.torn_end was) left (c.write_synced.ensures.any_return left may)

pub returns-clause-same : goal.returns-clause-same
returns-clause-same g c =
    on_ok_weaker c.write_synced.result (λ w clean.
    let p = c.args.place in
    let f = g.D.Disk.seen c.args.disk.now in
    let was = c.write_synced.ensures.clean clean in
    let len = c.requires.len was in
    clearing p.base p.end f c.requires.place.begins (omega (arith, len, c.requires.place.has_room)) (c.requires.text was) c.deref.result.now (zero_at _ c.deref.result.now (c.deref.ensures.value ∙ c.in_ok-none.ensures.zeros)) (omega (arith, len, ap length (c.deref.ensures.value ∙ c.in_ok-none.ensures.zeros), length-replicate {A = ℕ}, c.requires.place.has_room)) (c.requires.torn_end was) (g.D.Disk.seen c.write_synced.new.disk) (Mixed-held p.end c.deref.result.now f (g.D.Disk.seen c.write_synced.new.disk) w.torn w.holds)) c.write_synced.ensures.written

pub returns-clause-settled : goal.returns-clause-settled
returns-clause-settled g c =
    on_ok_weaker c.write_synced.result (λ w.
    let p = c.args.place in
    let f = g.D.Disk.seen c.args.disk.now in
    record {
      usable = w.usable;
      durable = w.durable;
      is_place = c.requires.place;
      at_rest = λ clean.
          let was = c.write_synced.ensures.clean clean in
          let len = c.requires.len was in
          let done : IsAtRest p.base p.end (length f) (g.D.Disk.seen c.write_synced.new.disk) =
          cleared p.base p.end f c.requires.place.begins (omega (arith, len, c.requires.place.has_room)) (c.requires.text was) c.deref.result.now (zero_at _ c.deref.result.now (c.deref.ensures.value ∙ c.in_ok-none.ensures.zeros)) (omega (arith, len, ap length (c.deref.ensures.value ∙ c.in_ok-none.ensures.zeros), length-replicate {A = ℕ}, c.requires.place.has_room)) (c.requires.torn_end was) (g.D.Disk.seen c.write_synced.new.disk) (Mixed-held p.end c.deref.result.now f (g.D.Disk.seen c.write_synced.new.disk) w.torn w.holds) w.holds in
          subst (λ (n : ℕ). IsAtRest p.base p.end n (g.D.Disk.seen c.write_synced.new.disk)) len done;
    }) c.write_synced.ensures.written
