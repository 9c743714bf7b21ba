-- References in registers: where they can be used.
use Rattle.std.specs.Prelude.{◌≡◌, ◌⊎◌, List, All, Contains}
use Rattle.pst_base.specs.Name.{root_name}
use Rattle.pst_versions.specs.State.{State}
use Rattle.pst_machine_steps.specs.declared.register.Register.{Register}
use Rattle.pst_machine_steps.specs.declared.register.Register.TheVariants.{Number, Null, Reference}

-- a reference in a register can be used at a place
abbrev pub IsLive : {P R : Type 0} → State P R → P → Register R → Type 0
IsLive s at (Number n) = Unit {0}
IsLive s at Null = Unit {0}
IsLive s at (Reference r) = s.live at r

-- a reference in a register can be used at some place
abbrev pub IsLiveSomewhere : {P R : Type 0} → State P R → Register R → Type 0
IsLiveSomewhere s (Number n) = Unit {0}
IsLiveSomewhere s Null = Unit {0}
IsLiveSomewhere {P} s (Reference r) = (p : P) × s.live p r

-- a reference to the root record can be used at a place
pub record IsRoot {P R : Type 0} (s : State P R) (at : P) (r : R) : Type 0 where
  pub live : s.live at r
  pub name : s.name r ≡ root_name

-- a number
abbrev pub IsNumber : {R : Type 0} → Register R → Type 0
IsNumber (Number n) = Unit {0}
IsNumber Null = ⊥
IsNumber (Reference r) = ⊥

-- no reference
abbrev pub IsPlainRegister : {R : Type 0} → Register R → Type 0
IsPlainRegister (Number n) = Unit {0}
IsPlainRegister Null = Unit {0}
IsPlainRegister (Reference r) = ⊥

-- each reference stood in a register before
abbrev pub KeptFrom : {R : Type 0} → (before after : List (Register R)) → Type 0
KeptFrom before after = All (λ v. IsPlainRegister v ⊎ Contains before v) after
