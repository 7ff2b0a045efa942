-- Steps of reading a file that gave a value.
use Rattle.std.proofs.Common.{◌≡◌, Bool, true, false, if◌then◌else◌, Option, Some, None, Result, Ok, Err, refl}
use Rattle.std.specs.Option.{ok_or}
use Rattle.dd_grammar.specs.declared.fault.SetFault.{SetFault}
use Rattle.dd_part10.specs.declared.fault.FileFault.{FileFault}
use Rattle.dd_grammar.specs.Reading.{◌>>=◌}
use Rattle.dd_part10.specs.Reading.{with_fault}

-- the value of a step that did not fail
pub bind_ok : {A B : Type 0} (r : Result A FileFault) (f : A → Result B FileFault) (y : B) → (r >>= f) ≡ Ok y
    → (x : A) × (r ≡ Ok x) × (f x ≡ Ok y)
bind_ok (Ok x) f y e = (x, refl, e)
bind_ok (Err d) f y e = absurd cc

-- a chain whose first step did not fail
pub onward : {A B : Type 0} (r : Result A FileFault) (x : A) (f : A → Result B FileFault) → r ≡ Ok x → (r >>= f) ≡ f x
onward r x f e = rw e refl

-- a test that refuses did not hold
pub passes : {A : Type 0} (b : Bool) (d : FileFault) (r : Result A FileFault) (y : A) → (if b then Err d else r) ≡ Ok y
    → (b ≡ false) × (r ≡ Ok y)
passes true d r y e = absurd cc
passes false d r y e = (refl, e)

-- a test that lets pass held
pub allowed : {A : Type 0} (b : Bool) (d : FileFault) (r : Result A FileFault) (y : A) → (if b then r else Err d) ≡ Ok y
    → (b ≡ true) × (r ≡ Ok y)
allowed true d r y e = (refl, e)
allowed false d r y e = absurd cc

-- what was to be there was
pub there : {A : Type 0} (o : Option A) (d : FileFault) (y : A) → ok_or o d ≡ Ok y → o ≡ Some y
there None d y e = absurd cc
there (Some x) d y e = cc

-- a data set that was read
pub was_read : {A : Type 0} (fault : SetFault → FileFault) (r : Result A SetFault) (y : A) → with_fault fault r ≡ Ok y
    → r ≡ Ok y
was_read fault (Ok x) y e = cc
was_read fault (Err d) y e = absurd cc

abbrev pub done : {A : Type 0} → A → Result A FileFault
done x = Ok x

-- two steps that give one result give one value
pub ok_is : {A : Type 0} (x y : A) → done x ≡ done y → x ≡ y
ok_is x y e = cc

-- a test that holds and one that does not
pub into : {A : Type 0} (b : Bool) (x y : A) → b ≡ true → (if b then x else y) ≡ x
into b x y e = rw e refl

pub past : {A : Type 0} (b : Bool) (x y : A) → b ≡ false → (if b then x else y) ≡ y
past b x y e = rw e refl
