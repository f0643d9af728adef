-- Faults of a data message: number, layer and place.
use Rattle.std.specs.Prelude.{ℕ, List, Ok, Err, Result, codes}
use Rattle.mtdata2.specs.declared.fault.Fault.{Fault}
use Rattle.mtdata2.specs.declared.fault.Layer.{Layer}
use Rattle.mtdata2.specs.declared.fault.Layer.TheVariants as layer
use Rattle.mtdata2.specs.declared.fault.Reason.{Reason}
use Rattle.mtdata2.specs.declared.fault.Reason.TheVariants.{NoStart, WrongLength, LengthRuledOut, WrongChecksum, NotDataMessage, NoPacket, HeaderCut, ContentCut, WrongSize}

-- the number of each reason
abbrev pub number_of : Reason → ℕ
number_of NoStart = 14
number_of WrongLength = 15
number_of LengthRuledOut = 16
number_of WrongChecksum = 17
number_of NotDataMessage = 18
number_of NoPacket = 19
number_of HeaderCut = 20
number_of ContentCut = 21
number_of WrongSize = 22

-- the layer of each reason
abbrev pub layer_of : Reason → Layer
layer_of NoStart = layer.Frame
layer_of WrongLength = layer.Frame
layer_of LengthRuledOut = layer.Frame
layer_of WrongChecksum = layer.Frame
layer_of NotDataMessage = layer.Message
layer_of NoPacket = layer.Message
layer_of HeaderCut = layer.Packet
layer_of ContentCut = layer.Packet
layer_of WrongSize = layer.Packet

-- how a layer is printed
abbrev pub layer_name : Layer → List ℕ
layer_name layer.Frame = codes "frame"
layer_name layer.Message = codes "message"
layer_name layer.Packet = codes "packet"

-- what a fault carries
pub record Report : Type 0 where
  pub number : ℕ
  pub layer : Layer
  pub place : ℕ

abbrev pub reported : Fault → Report
reported f = record { number = number_of f.reason; layer = layer_of f.reason; place = f.place }

module _ {A : Type 0} where
  abbrev pub frame_fault : ℕ → ℕ → Result A Report
  frame_fault n p = Err (record { number = n; layer = layer.Frame; place = p })

  abbrev pub message_fault : ℕ → ℕ → Result A Report
  message_fault n p = Err (record { number = n; layer = layer.Message; place = p })

  abbrev pub packet_fault : ℕ → ℕ → Result A Report
  packet_fault n p = Err (record { number = n; layer = layer.Packet; place = p })

abbrev pub and_then : {A B : Type 0} → Result A Report → (A → Result B Report) → Result B Report
and_then (Ok x) f = f x
and_then (Err e) f = Err e
