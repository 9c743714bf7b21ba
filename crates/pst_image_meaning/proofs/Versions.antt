-- What a store shows as the versions of an image.
use Rattle.std.proofs.Common.{◌≡◌, ℕ, zero, suc, ◌<◌, ◌≤◌, Some, length, refl, sym, ap, ◌∙◌, subst, arith}
use Rattle.std.specs.Prelude.{slice_get}
use Rattle.std.proofs.lemmas.List.{length-map}
use Rattle.pst_order.specs.Places.{rank}
use Rattle.pst_versions.specs.declared.rows.VersionRow.{VersionRow}
use Rattle.pst_versions.specs.Rows.{first_row}
use Rattle.pst_store_meaning.specs.declared.place.Place.{Place}
use Rattle.pst_store_meaning.specs.Store.{Stored, begin_of, end_of}
use Rattle.pst_store_meaning.proofs.Places.{slice_get-below}
use Rattle.pst_image_form.specs.declared.parts.VersionPart.{VersionPart}
use Rattle.pst_image_rules.specs.Versions.{AreNested, IsFurther, IsInside, IsRootVersion, version_at, parent_of, run_of, no_version}
use Rattle.pst_image_meaning.specs.Parts.{version_part, version_parts}
use Rattle.pst_image_meaning.specs.Versions.{AreVersionsNested}
use Rattle.pst_image_meaning.specs.LawsParts.{VersionsLaw}
use Rattle.pst_image_meaning.proofs.Nodes.{slice_get-there, part_in}

module _ (s : Stored) (next : ℕ) where
  part_at : (v : ℕ) (row : VersionRow Place) → slice_get s.versions v ≡ Some row → version_at (version_parts s) v ≡ version_part (rank s.places) row
  part_at v row e = part_in (version_part (rank s.places)) no_version s.versions v row e

  count : length (version_parts s) ≡ length s.versions
  count = length-map s.versions (version_part (rank s.places))

  row_at : (v : ℕ) → v < length (version_parts s) → (row : VersionRow Place) × (slice_get s.versions v ≡ Some row)
  row_at v l = slice_get-there s.versions v (omega (arith, count))

  further : (v : ℕ) (row : VersionRow Place) → slice_get s.versions (suc v) ≡ Some row → IsFurther (version_parts s) (suc v)
  further v row e = record { low = omega arith; high = omega (arith, count, slice_get-below s.versions (suc v) row e) }

  parent_is : (v : ℕ) (row : VersionRow Place) → slice_get s.versions v ≡ Some row → parent_of (version_parts s) v ≡ row.parent.0
  parent_is v row e = ap (λ (p : VersionPart). p.parent.0) (part_at v row e)

  run_is : (v : ℕ) (row : VersionRow Place) → slice_get s.versions v ≡ Some row → run_of (version_parts s) v ≡ row.run.0
  run_is v row e = ap (λ (p : VersionPart). p.run.0) (part_at v row e)

  begin_is : (v : ℕ) (row : VersionRow Place) → slice_get s.versions v ≡ Some row → (version_at (version_parts s) v).begin ≡ begin_of s row.place
  begin_is v row e = ap (λ (p : VersionPart). p.begin) (part_at v row e)

  end_is : (v : ℕ) (row : VersionRow Place) → slice_get s.versions v ≡ Some row → (version_at (version_parts s) v).end ≡ end_of s row.place
  end_is v row e = ap (λ (p : VersionPart). p.end) (part_at v row e)

  pub shown : AreVersionsNested s next → AreNested (version_parts s) (length s.places) next
  shown n = record {
    root = subst (λ (p : VersionPart). IsRootVersion p (length s.places)) (sym (part_at 0 (first_row s.start) n.root)) (record {
      parent = refl;
      run = refl;
      begin = n.first;
      end = let last = n.last in omega (arith, last);
    });
    inside = λ v f. in_at v f;
    own_run = λ v w f g e. own v w f g e;
    siblings = λ v w f g p r. apart v w f g p r;
  }
    where
      in_at : (v : ℕ) → IsFurther (version_parts s) v → IsInside next v (version_at (version_parts s) v) (version_at (version_parts s) (parent_of (version_parts s) v))
      in_at zero f = let low = f.low in absurd (omega (arith, low))
      in_at (suc v) f =
          let x = row_at (suc v) f.high in
          let i = n.within v x.0 x.1 in
          let r = n.runs v x.0 x.1 in
          let up : version_at (version_parts s) (parent_of (version_parts s) (suc v)) ≡ version_part (rank s.places) i.parent =
          ap (version_at (version_parts s)) (parent_is (suc v) x.0 x.1) ∙ part_at x.0.parent.0 i.parent i.at in
          subst (λ (p : VersionPart). IsInside next (suc v) p (version_at (version_parts s) (parent_of (version_parts s) (suc v)))) (sym (part_at (suc v) x.0 x.1))
          (subst (λ (q : VersionPart). IsInside next (suc v) (version_part (rank s.places) x.0) q) (sym up) (record {
            older = i.below;
            run_low = r.0;
            run_high = r.1;
            life = i.some;
            begins = i.begins;
            ends = i.ends;
          }))

      own : (v w : ℕ) → IsFurther (version_parts s) v → IsFurther (version_parts s) w → run_of (version_parts s) v ≡ run_of (version_parts s) w → v ≡ w
      own zero w f g e = let low = f.low in absurd (omega (arith, low))
      own (suc v) zero f g e = let low = g.low in absurd (omega (arith, low))
      own (suc v) (suc w) f g e =
          let x = row_at (suc v) f.high in
          let y = row_at (suc w) g.high in
          ap suc (n.own_run v w x.0 y.0 x.1 y.1 (sym (run_is (suc v) x.0 x.1) ∙ e ∙ run_is (suc w) y.0 y.1))

      apart : (v w : ℕ) → IsFurther (version_parts s) v → IsFurther (version_parts s) w
          → parent_of (version_parts s) v ≡ parent_of (version_parts s) w → run_of (version_parts s) v < run_of (version_parts s) w
          → (version_at (version_parts s) w).end < (version_at (version_parts s) v).begin
      apart zero w f g p r = let low = f.low in absurd (omega (arith, low))
      apart (suc v) zero f g p r = let low = g.low in absurd (omega (arith, low))
      apart (suc v) (suc w) f g p r =
          let x = row_at (suc v) f.high in
          let y = row_at (suc w) g.high in
          let less = n.siblings v w x.0 y.0 x.1 y.1 (sym (parent_is (suc v) x.0 x.1) ∙ p ∙ parent_is (suc w) y.0 y.1) (omega (arith, r, run_is (suc v) x.0 x.1, run_is (suc w) y.0 y.1)) in
          omega (arith, less, end_is (suc w) y.0 y.1, begin_is (suc v) x.0 x.1)

  kept : 2 ≤ length s.places → slice_get s.versions 0 ≡ Some (first_row s.start) → AreNested (version_parts s) (length s.places) next → AreVersionsNested s next
  kept two root n =
      let r : IsRootVersion (version_part (rank s.places) (first_row s.start)) (length s.places) =
      subst (λ (p : VersionPart). IsRootVersion p (length s.places)) (part_at 0 (first_row s.start) root) n.root in
      record {
        root = root;
        first = r.begin;
        last = let e = r.end in omega (arith, e, two);
        within = λ v row e.
            let f = further v row e in
            let i = n.inside (suc v) f in
            let older = i.older in
            let at = parent_is (suc v) row e in
            let high = f.high in
            let x = row_at row.parent.0 (omega (arith, older, high, run_is (suc v) row e, part_older v row e n)) in
            let up : version_at (version_parts s) (parent_of (version_parts s) (suc v)) ≡ version_part (rank s.places) x.0 = ap (version_at (version_parts s)) at ∙ part_at row.parent.0 x.0 x.1 in
            let j : IsInside next (suc v) (version_part (rank s.places) row) (version_part (rank s.places) x.0) =
            subst (λ (q : VersionPart). IsInside next (suc v) (version_part (rank s.places) row) q) up
            (subst (λ (p : VersionPart). IsInside next (suc v) p (version_at (version_parts s) (parent_of (version_parts s) (suc v))))
            (part_at (suc v) row e) i) in
            record { parent = x.0; at = x.1; below = j.older; begins = j.begins; some = j.life; ends = j.ends };
        runs = λ v row e. let i = n.inside (suc v) (further v row e) in let low = i.run_low in let high = i.run_high in let same =
            run_is (suc v) row e in (omega (arith, low, same), omega (arith, high, same));
        own_run = λ v w a b e f same.
            let one = n.own_run (suc v) (suc w) (further v a e) (further w b f) (run_is (suc v) a e ∙ same ∙ sym (run_is (suc w) b f)) in omega (arith, one);
        siblings = λ v w a b e f same less.
            let one = n.siblings (suc v) (suc w) (further v a e) (further w b f) (parent_is (suc v) a e ∙ same ∙ sym (parent_is (suc w) b f))
            (omega (arith, less, run_is (suc v) a e, run_is (suc w) b f)) in
            omega (arith, one, end_is (suc w) b f, begin_is (suc v) a e);
      }
    where
      part_older : (v : ℕ) (row : VersionRow Place) → slice_get s.versions (suc v) ≡ Some row → AreNested (version_parts s) (length s.places) next → row.parent.0 < suc v
      part_older v row e n = let i = n.inside (suc v) (further v row e) in let older = i.older in let at = parent_is (suc v) row e in omega (arith, older, at)

pub versions_law : VersionsLaw
versions_law s next two root = (shown s next, kept s next two root)
