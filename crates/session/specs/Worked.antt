-- Worked cases, as one table.
use Rattle.std.specs.Prelude.{◌≡◌, ℕ, ◌-◌, ◌^◌, Bool, true, false, List, [], ◌∷◌, ◌++◌, map, length, replicate, ℤ, pos, negsuc, Ok, Err, Result}
use Rattle.std.specs.List.{AllByRecursion}
use Rattle.mti.specs.declared.product.Product.{Product}
use Rattle.mti.specs.declared.product.Product.TheVariants.{Mti3, Mti30}
use Rattle.mti.specs.declared.precision.Precision.{Precision}
use Rattle.mti.specs.declared.precision.Precision.TheVariants.{Single, Fixed32, Fixed48}
use Rattle.stream.specs.Reading.{Piece, frame, stray, left, read_of}
use Rattle.numbers.specs.Encoding.{encoded}
use Rattle.settings.specs.Values.{entry}
use Rattle.config.specs.Changed.{used}
use Rattle.session.specs.declared.counts.Counts.{Counts}
use Rattle.session.specs.declared.answers.Fed.{Fed}
use Rattle.session.specs.declared.answers.Refusal.{Refusal}
use Rattle.session.specs.declared.answers.Refusal.TheVariants.{Dark, AlreadyPowered, ShortTray, FrameWaits}
use Rattle.session.specs.Calls.{Called, feed_call}
use Rattle.session.specs.Deeds.{Deed, on, fed, tick, done, behind, unit}
use Rattle.session.specs.Examples.{wake_up_ack, go_to_config, go_to_measurement, reset, req_did, req_location, location_5, flag_01, flag_02, list_1070, two_frames, in_failed, in_wake_up, in_config, in_measurement, wake_up, did, did_to_01, error_4, error_32, error_33, data_0_0, data_1_0, data_1_100, seconds_0, seconds_1, configuration}

pub data Case : Type 0 where
  -- reading these bytes comes to these pieces
  reads : List ℕ → List Piece → Case
  -- an output asked for at so many Hz is used at so many
  rated : ℕ → ℕ → ℕ → Case
  -- a reading in a precision is sent as these bytes
  sent : Precision → ℤ → List ℕ → Case
  -- a unit of this product, over a store with so many writes left, writes these bytes at a deed behind others
  writes : Product → ℕ → List Deed → Deed → List ℕ → Case
  -- behind these deeds a feed takes so many of the bytes, and serves a frame or none
  taken : List Deed → List ℕ → ℕ → Bool → Case
  -- behind these deeds the counts are so many
  counting : List Deed → Counts → Case
  -- behind these deeds one with a tray of so many bytes is refused
  refused : List Deed → Deed → ℕ → Refusal → Case

abbrev pub counts : ℕ → ℕ → ℕ → ℕ → ℕ → Counts
counts w s n p t = record { wake_ticks = w; sent = s; number = n; phase = p; seconds = t }

abbrev pub table : List Case
table =
    -- one byte is dropped, then ReqDID is read
    reads (0xFA ∷ 0xFA ∷ 0xFF ∷ 0x00 ∷ 0x00 ∷ 0x01 ∷ []) (stray 0xFA ∷ frame (0xFA ∷ 0xFF ∷ 0x00 ∷ 0x00 ∷ 0x01 ∷ []) ∷ [])
    -- these wait, and of these nothing is left
    ∷ reads (0xFA ∷ 0x01 ∷ 0x02 ∷ 0xFF ∷ 0x00 ∷ []) (left (0xFA ∷ 0x01 ∷ 0x02 ∷ 0xFF ∷ 0x00 ∷ []) ∷ [])
    ∷ reads (0xFA ∷ 0x01 ∷ 0x02 ∷ 0xFF ∷ 0x09 ∷ []) (map stray (0xFA ∷ 0x01 ∷ 0x02 ∷ 0xFF ∷ 0x09 ∷ []))
    ∷ rated 0x2010 300 200
    ∷ rated 0xC020 99 50
    ∷ sent Single (pos (2 ^ 32)) (0x3F ∷ 0x80 ∷ 0x00 ∷ 0x00 ∷ [])
    ∷ sent Fixed32 (pos (2 ^ 32)) (0x00 ∷ 0x10 ∷ 0x00 ∷ 0x00 ∷ [])
    ∷ sent Fixed48 (pos (2 ^ 32)) (0x00 ∷ 0x01 ∷ 0x00 ∷ 0x00 ∷ 0x00 ∷ 0x00 ∷ [])
    ∷ sent Fixed32 (negsuc 0) (0xFF ∷ 0xFF ∷ 0xFF ∷ 0xFF ∷ [])
    ∷ sent Single (pos (2 ^ 47 - 1)) (0x47 ∷ 0x00 ∷ 0x00 ∷ 0x00 ∷ [])
    ∷ sent Fixed32 (pos (2 ^ 47 - 1)) (0x7F ∷ 0xFF ∷ 0xFF ∷ 0xFF ∷ [])
    -- power, and WakeUp
    ∷ writes Mti3 4 [] on wake_up
    ∷ writes Mti3 4 in_wake_up wake_up_ack []
    ∷ writes Mti3 4 in_wake_up (fed (0xFA ∷ 0xFF ∷ 0x3F ∷ 0x01 ∷ 0x00 ∷ 0xC1 ∷ [])) error_33
    ∷ writes Mti3 4 in_wake_up req_did error_4
    -- Config: the three addresses
    ∷ writes Mti3 4 in_config req_did did
    ∷ writes Mti3 4 in_config (fed (0xFA ∷ 0x01 ∷ 0x00 ∷ 0x00 ∷ 0xFF ∷ [])) did_to_01
    ∷ writes Mti3 4 in_config (fed (0xFA ∷ 0x02 ∷ 0x00 ∷ 0x00 ∷ 0xFE ∷ [])) []
    -- changes, and wrong values
    ∷ writes Mti3 4 in_config (fed (0xFA ∷ 0xFF ∷ 0x18 ∷ 0x01 ∷ 0x0B ∷ 0xDD ∷ [])) (0xFA ∷ 0xFF ∷ 0x19 ∷ 0x00 ∷ 0xE8 ∷ [])
    ∷ writes Mti3 4 in_config (fed (0xFA ∷ 0xFF ∷ 0x18 ∷ 0x01 ∷ 0x0C ∷ 0xDC ∷ [])) error_32
    ∷ writes Mti30 4 in_config (fed (0xFA ∷ 0xFF ∷ 0xDA ∷ 0x02 ∷ 0x00 ∷ 0x03 ∷ 0x22 ∷ [])) (0xFA ∷ 0xFF ∷ 0xDB ∷ 0x00 ∷ 0x26 ∷ [])
    ∷ writes Mti30 4 in_config (fed (0xFA ∷ 0xFF ∷ 0xDA ∷ 0x02 ∷ 0x00 ∷ 0x04 ∷ 0x21 ∷ [])) error_33
    ∷ writes Mti3 4 in_config (fed (0xFA ∷ 0xFF ∷ 0x64 ∷ 0x02 ∷ 0x00 ∷ 0x33 ∷ 0x68 ∷ [])) (0xFA ∷ 0xFF ∷ 0x65 ∷ 0x00 ∷ 0x9C ∷ [])
    ∷ writes Mti3 4 in_config (fed (0xFA ∷ 0xFF ∷ 0x64 ∷ 0x02 ∷ 0x00 ∷ 0x37 ∷ 0x64 ∷ [])) error_33
    ∷ writes Mti3 4 in_config flag_01 (0xFA ∷ 0xFF ∷ 0x49 ∷ 0x00 ∷ 0xB8 ∷ [])
    ∷ writes Mti3 4 in_config (fed (0xFA ∷ 0xFF ∷ 0x48 ∷ 0x08 ∷ 0x00 ∷ 0x00 ∷ 0x00 ∷ 0x08 ∷ 0x00 ∷ 0x00 ∷ 0x00 ∷ 0x00 ∷ 0xA9 ∷ [])) error_33
    ∷ writes Mti3 4 in_config (fed (0xFA ∷ 0xFF ∷ 0xC0 ∷ 0x04 ∷ 0x20 ∷ 0x10 ∷ 0x01 ∷ 0x2C ∷ 0xE0 ∷ [])) (0xFA ∷ 0xFF ∷ 0xC1 ∷ 0x04 ∷ 0x20 ∷ 0x10 ∷ 0x00 ∷ 0xC8 ∷ 0x44 ∷ [])
    ∷ writes Mti3 4 in_config (fed (0xFA ∷ 0xFF ∷ 0xC0 ∷ 0x04 ∷ 0x20 ∷ 0x10 ∷ 0x00 ∷ 0x00 ∷ 0x0D ∷ [])) error_33
    ∷ writes Mti3 4 in_config location_5 (0xFA ∷ 0xFF ∷ 0x85 ∷ 0x00 ∷ 0x7C ∷ [])
    ∷ writes Mti3 4 in_config (fed (0xFA ∷ 0xFF ∷ 0x84 ∷ 0x01 ∷ 0x00 ∷ 0x7C ∷ [])) error_33
    ∷ writes Mti3 4 in_config (fed (0xFA ∷ 0xFF ∷ 0x0E ∷ 0x00 ∷ 0xF3 ∷ [])) (0xFA ∷ 0xFF ∷ 0x0F ∷ 0x00 ∷ 0xF2 ∷ [])
    -- no write left: a change is refused, unless flag 01 is set
    ∷ writes Mti3 0 in_config location_5 (0xFA ∷ 0xFF ∷ 0x42 ∷ 0x06 ∷ 0x28 ∷ 0x84 ∷ 0x00 ∷ 0x00 ∷ 0x00 ∷ 0x00 ∷ 0x0D ∷ [])
    ∷ writes Mti3 0 (on ∷ wake_up_ack ∷ location_5 ∷ []) req_location (0xFA ∷ 0xFF ∷ 0x85 ∷ 0x02 ∷ 0x00 ∷ 0x00 ∷ 0x7A ∷ [])
    ∷ writes Mti3 0 (on ∷ wake_up_ack ∷ flag_01 ∷ []) location_5 (0xFA ∷ 0xFF ∷ 0x85 ∷ 0x00 ∷ 0x7C ∷ [])
    -- what was stored is there behind Reset; with flag 01 set nothing is stored
    ∷ writes Mti3 4 (on ∷ wake_up_ack ∷ location_5 ∷ reset ∷ wake_up_ack ∷ []) req_location (0xFA ∷ 0xFF ∷ 0x85 ∷ 0x02 ∷ 0x00 ∷ 0x05 ∷ 0x75 ∷ [])
    ∷ writes Mti3 4 (on ∷ wake_up_ack ∷ flag_01 ∷ location_5 ∷ reset ∷ wake_up_ack ∷ []) req_location (0xFA ∷ 0xFF ∷ 0x85 ∷ 0x02 ∷ 0x00 ∷ 0x00 ∷ 0x7A ∷ [])
    -- Reset, GoToMeasurement, GoToConfig
    ∷ writes Mti3 4 in_config reset (0xFA ∷ 0xFF ∷ 0x41 ∷ 0x00 ∷ 0xC0 ∷ 0xFA ∷ 0xFF ∷ 0x3E ∷ 0x00 ∷ 0xC3 ∷ [])
    ∷ writes Mti3 4 in_config go_to_measurement ((0xFA ∷ 0xFF ∷ 0x11 ∷ 0x00 ∷ 0xF0 ∷ []) ++ configuration)
    ∷ writes Mti3 4 in_measurement req_did error_4
    ∷ writes Mti3 4 in_measurement go_to_config (0xFA ∷ 0xFF ∷ 0x31 ∷ 0x00 ∷ 0xD0 ∷ [])
    ∷ writes Mti3 4 (on ∷ wake_up_ack ∷ go_to_measurement ∷ go_to_config ∷ []) req_did did
    -- WakeUpAck after 999 ticks is in time, after 1,000 it is not; the thousandth writes Configuration
    ∷ writes Mti3 4 (on ∷ replicate 998 tick) tick []
    ∷ writes Mti3 4 ((on ∷ replicate 999 tick) ++ (wake_up_ack ∷ [])) req_did did
    ∷ writes Mti3 4 (on ∷ replicate 999 tick) tick configuration
    ∷ writes Mti3 4 (on ∷ replicate 1000 tick) wake_up_ack error_4
    -- or nothing, if flag 02 is set, and leads to Config
    ∷ writes Mti3 4 ((on ∷ wake_up_ack ∷ flag_02 ∷ reset ∷ []) ++ replicate 999 tick) tick []
    ∷ writes Mti3 4 ((on ∷ wake_up_ack ∷ flag_02 ∷ reset ∷ []) ++ replicate 1000 tick) req_did did
    -- the factory list at 100 Hz: the first message, none for 19 ticks, the second
    ∷ writes Mti3 4 in_measurement tick data_0_0
    ∷ writes Mti3 4 (in_measurement ++ replicate 19 tick) tick []
    ∷ writes Mti3 4 (in_measurement ++ replicate 20 tick) tick data_1_100
    -- the first when Measurement begins again, and behind Reset
    ∷ writes Mti3 4 (in_measurement ++ (tick ∷ go_to_config ∷ go_to_measurement ∷ [])) tick data_1_0
    ∷ writes Mti3 4 (in_measurement ++ (tick ∷ reset ∷ wake_up_ack ∷ go_to_measurement ∷ [])) tick data_0_0
    -- 1070 counts seconds, from 0 when Measurement begins again
    ∷ writes Mti3 4 ((on ∷ wake_up_ack ∷ list_1070 ∷ go_to_measurement ∷ []) ++ replicate 1999 tick) tick []
    ∷ writes Mti3 4 ((on ∷ wake_up_ack ∷ list_1070 ∷ go_to_measurement ∷ []) ++ replicate 2000 tick) tick seconds_1
    ∷ writes Mti3 4 ((on ∷ wake_up_ack ∷ list_1070 ∷ go_to_measurement ∷ []) ++ replicate 2000 tick ++ (go_to_config ∷ go_to_measurement ∷ [])) tick seconds_0
    -- GoToConfig and ticks in Config leave the counts, Reset takes them to 0
    ∷ counting (on ∷ replicate 1001 tick) (counts 1000 1 1 1 0)
    ∷ counting ((on ∷ wake_up_ack ∷ list_1070 ∷ go_to_measurement ∷ []) ++ replicate 2001 tick ++ (go_to_config ∷ tick ∷ [])) (counts 0 2 2001 1 1)
    ∷ counting ((on ∷ wake_up_ack ∷ list_1070 ∷ go_to_measurement ∷ []) ++ replicate 2001 tick ++ (reset ∷ [])) (counts 0 0 0 0 0)
    -- bytes taken, and whether a frame was served
    ∷ taken in_config (0xFA ∷ 0xFF ∷ 0x00 ∷ 0x00 ∷ 0x01 ∷ 0xFA ∷ 0xFF ∷ 0x00 ∷ 0x00 ∷ 0x01 ∷ []) 5 true
    ∷ taken in_config (0xFA ∷ 0xFF ∷ 0x00 ∷ 0x00 ∷ []) 4 false
    ∷ taken (on ∷ wake_up_ack ∷ two_frames ∷ []) [] 0 false
    ∷ taken (on ∷ wake_up_ack ∷ in_failed ∷ []) (0xFA ∷ []) 0 true
    -- two frames wait in one that failed: each feed serves one
    ∷ writes Mti3 4 in_config in_failed did
    ∷ writes Mti3 4 (on ∷ wake_up_ack ∷ in_failed ∷ []) (fed (0xFA ∷ [])) did_to_01
    -- refusals, in their order
    ∷ refused [] tick 2054 Dark
    ∷ refused [] (fed []) 2054 Dark
    ∷ refused [] on 2054 ShortTray
    ∷ refused in_wake_up on 2054 AlreadyPowered
    ∷ refused in_wake_up (fed []) 2054 ShortTray
    ∷ refused (on ∷ wake_up_ack ∷ in_failed ∷ []) tick 2054 ShortTray
    ∷ refused (on ∷ wake_up_ack ∷ in_failed ∷ []) tick 2055 FrameWaits
    ∷ []

-- a call wrote these bytes and answers their number; takes so many bytes; or is refused, and writes nothing

abbrev pub Accepted : Called ℕ → List ℕ → Type 0
Accepted c xs = (c.1 ≡ xs) × (c.2 ≡ Ok (length xs))

abbrev pub Takes : Result Fed Refusal → ℕ → Bool → Type 0
Takes (Ok f) k b = (f.taken ≡ k) × (f.served ≡ b)
Takes (Err e) k b = ⊥

abbrev pub Refuses : Called ℕ → Refusal → Type 0
Refuses c e = (c.1 ≡ []) × (c.2 ≡ Err e)

-- the definitions say so
abbrev pub Holds : Case → Type 0
Holds (reads xs ps) = read_of xs ≡ ps
Holds (rated i asked hz) = used (entry i asked) ≡ entry i hz
Holds (sent p v xs) = encoded p v ≡ xs
Holds (writes p n ds d xs) = Accepted (done 2055 d (behind ds (unit p n))) xs
Holds (taken ds bs k b) = Takes (feed_call (behind ds (unit Mti3 4)) bs 2055).2 k b
Holds (counting ds n) = (behind ds (unit Mti3 4)).core.counts ≡ n
Holds (refused ds d n e) = Refuses (done n d (behind ds (unit Mti3 4))) e

abbrev pub Worked : Type 0
Worked = AllByRecursion Holds table
