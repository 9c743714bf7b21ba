use Rattle.pst_history_laws.proofs.Endings.{outcome_law}
use Rattle.pst_history_laws.proofs.Typing.{typing_law}
use Rattle.pst_history_laws.proofs.Histories.{history_law}
use Rattle.pst_history_laws.proofs.Meanings.{meaning_law}
use Rattle.pst_history_laws.proofs.Canonical.{canonical_law}
use Rattle.pst_history_laws.proofs.laws_lines.lines.Goals as goal

pub returns : goal.returns
returns c = record { typing = typing_law; outcome = outcome_law; meaning = meaning_law; history = history_law; canonical = canonical_law }
