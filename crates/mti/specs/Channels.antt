-- The channels of the products.
use Rattle.std.specs.Prelude.{ℕ, Bool, true, false, List, [], ◌∷◌, Option, ◌==◌}
use Rattle.std.specs.List.{find}
use Rattle.mti.specs.declared.channel.Availability.{Availability}
use Rattle.mti.specs.declared.channel.Availability.TheVariants.{All, From300, OnlyG710}
use Rattle.mti.specs.declared.channel.Kind.{Kind}
use Rattle.mti.specs.declared.channel.Kind.TheVariants.{Real, Whole}
use Rattle.mti.specs.declared.channel.Channel.{Channel}
use Rattle.mti.specs.declared.precision.Precision.{Precision}
use Rattle.mti.specs.declared.product.Product.{Product}
use Rattle.mti.specs.declared.product.Product.TheVariants.{Mti3, Mti30, Mti300, MtiG710}
use Rattle.mti.specs.Precisions.{digit_of}

-- which products offer what
abbrev pub offered_by : Availability → Product → Bool
offered_by All p = true
offered_by From300 Mti3 = false
offered_by From300 Mti30 = false
offered_by From300 Mti300 = true
offered_by From300 MtiG710 = true
offered_by OnlyG710 Mti3 = false
offered_by OnlyG710 Mti30 = false
offered_by OnlyG710 Mti300 = false
offered_by OnlyG710 MtiG710 = true

-- real numbers are sent in every precision, a whole number only under the format digit 0
abbrev pub taken_by : Kind → Precision → Bool
taken_by (Real n) p = true
taken_by (Whole w) p = digit_of p == 0

-- a row, as the table writes it
abbrev pub row : ℕ → Kind → ℕ → Availability → Channel
row i k m a = record { identifier = i; kind = k; max_hz = m; availability = a }

-- the table: identifier, data, maximum Hz, products
abbrev pub channels : List Channel
channels =
    row 0x0810 (Real 1) 1 All
    ∷ row 0x1020 (Whole 2) 2000 All
    ∷ row 0x1060 (Whole 4) 2000 All
    ∷ row 0x1070 (Whole 4) 2000 All
    ∷ row 0x2010 (Real 4) 400 All
    ∷ row 0x2020 (Real 9) 400 All
    ∷ row 0x2030 (Real 3) 400 All
    ∷ row 0x3010 (Whole 4) 50 From300
    ∷ row 0x4010 (Real 3) 2000 All
    ∷ row 0x4020 (Real 3) 2000 All
    ∷ row 0x4030 (Real 3) 2000 All
    ∷ row 0x5020 (Real 1) 400 OnlyG710
    ∷ row 0x5040 (Real 2) 400 OnlyG710
    ∷ row 0x8020 (Real 3) 2000 All
    ∷ row 0x8030 (Real 4) 2000 All
    ∷ row 0xC020 (Real 3) 100 All
    ∷ row 0xD010 (Real 3) 400 OnlyG710
    ∷ row 0xE010 (Whole 1) 2000 All
    ∷ row 0xE020 (Whole 4) 2000 All
    ∷ []

-- the first row that bears the identifier
abbrev pub first_of : ℕ → List Channel → Option Channel
first_of i = find (λ c. c.identifier == i)

-- the channel of an identifier whose format digit is 0
unfoldable pub channel_of : ℕ → Option Channel
channel_of i = first_of i channels
