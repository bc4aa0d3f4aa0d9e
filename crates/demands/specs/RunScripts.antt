-- Promises that apply, demand 3: the scripts of programs that run, and of what is read when one has ended.
use Rattle.std.specs.Prelude.{true, false, [], ◌∷◌, ◌++◌}
use Rattle.controller.specs.Refusals.{byte, tick, press}
use Rattle.demands.specs.Exchanges.{change, gap}
use Rattle.demands.specs.CallsTable.{lent}
use Rattle.demands.specs.Walks.{◌⇒◌, lends, gives, powers}
use Rattle.demands.specs.Applying.{Runs, AtOnce, EndRead}
use Rattle.demands.specs.RefusedCalls.{others, ends}

-- ---- demand 3

-- started by 003, the program takes 7 ticks
abbrev pub by_command : Runs
by_command = record {
  begins = record {
    before =
        powers 64
        ∷ "CW000F10003^CWIS00000000010002^CWIN1^CWIS00000000020001^CW20605^##CW210003" ⇒ "OK^OK^OK^OK^OK^"
        ∷ [];
    start = byte 13;
    line = 0;
  };
  later =
      "CR206^CR211^CR213^CR201^CR212^CR201^" ⇒ "01^001^0003^82^012^02^"
      -- one tick, two in a pause by the button, and what is read and written then
      ∷ "#%##CR201^CR206^CR211^CR213^CW210002^CW20601^CW209009^CW210003^CW210008^CW210004^" ⇒ "03^01^001^0003^OK^E005^OK^E020^E020^OK^"
      -- the second tick turns the loop
      ∷ "#CR213^" ⇒ "0002^"
      ∷ []
      -- refused ticks, presses and emptyings, and a 001 that no byte 13 finishes
      ++ (others ++ ("CW210001" ⇒ "" ∷ [] ++ (ends ++ (
      "X^CW210002^#CR201^%" ⇒ "E002^OK^03^"
      -- each sort of command, with and without an error
      ∷ "CW210004^CW210005^CW210006^CW210007^CW210009^CW000N1^CW200N1^CW203FF^CW201^CW2090X9^^CRX^CR^" ⇒
      "E021^E020^E020^E020^E003^E005^E005^E005^E004^E003^E001^E002^E001^"
      ∷ "CW209200^CR000^CRI^CRI^CRD^CR007^CR200^CR202^CR207^CRI^CRI^CRI^" ⇒
      "OK^F10003^S00000000010002^N1^S00000000010002^E024^S00000000000000^00^00^000^200^002^"
      ∷ "##CR213^" ⇒ "0001^"
      ∷ gives (change 255 0 5 0 ++ change 1 2 1 5)
      ∷ "##CR203^CRI^CRI^CRI^CR211^CR213^CRI^CRI^CRI^CR201^c%r 2 0%6" ⇒ "00^00^00^02^003^0000^0000^0000^0000^02^"
      ∷ [])))
      );
  count = 6;
  j = 206;
  address = "206";
  reply = "02";
  is_on = false;
  found = "^CR201^CR211^CR212^" ⇒ "00^80^004^011^" ∷ [];
}

-- the program of a plan: 2 ticks of word 1 and 1 of word 2, then 1 of word 0 and 2 of word 4, with a pause by the button and by 002
abbrev pub by_plan : Runs
by_plan = record {
  begins = record {
    before =
        powers 64
        ∷ "CW000S00000000010002^CWIS00000000020001^CWIS00000000000001^CWIS00000000040002^CW007S00000000000000^CW206FF^#CW210003" ⇒ "OK^OK^OK^OK^OK^OK^"
        ∷ [];
    start = byte 13;
    line = 0;
  };
  later =
      "CR206^#%##CR206^%#CR206^CW20600^CW000N1^" ⇒ "01^01^02^E005^E005^"
      ∷ "#CR206^CW210002^#CR206^CW210004^#CR206^CR211^CR212^" ⇒ "00^OK^00^OK^04^003^012^"
      ∷ gives (change 255 0 0xFF 0 ++ (change 0 1 1 0xFF ++ (change 1 5 2 1 ++ gap 6 2 4)))
      ∷ "#CR206^c r 2 1%%1" ⇒ "04^"
      ∷ [];
  count = 5;
  j = 211;
  address = "211";
  reply = "003";
  is_on = false;
  found = "^CR206^CR212^CR211^" ⇒ "004^00^011^004^" ∷ [];
}

-- the program of a plan with a loop, 10,000 ticks of word 1 and 1 of word 2, in its first ticks
abbrev pub by_long_plan : Runs
by_long_plan = record {
  begins = record {
    before =
        powers 32
        ∷ "CW000F10001^CWIS00000000019999^CWIN1^CWIS00000000010001^CWIS00000000020001^CW007S00000000000000^" ⇒ "OK^OK^OK^OK^OK^OK^"
        ∷ [];
    start = press 1;
    line = 0;
  };
  later = "CR206^CR213^#%#%CR211^#CR206^c r%2#0%6" ⇒ "01^0001^001^01^" ∷ [];
  count = 2;
  j = 206;
  address = "206";
  reply = "01";
  is_on = true;
  found = "^CR201^CR213^" ⇒ "01^82^0001^" ∷ [];
}

-- started by 005 before a Bad line, with a pause by 002 and by the button
abbrev pub by_parameter : Runs
by_parameter = record {
  begins = record { before = powers 32 ∷ "CW006S00000000090002^CW209006^C W2 100#05" ⇒ "OK^OK^" ∷ []; start = byte 13; line = 6 };
  later = "CW210002^##%#CR211^%%%#%CR206^CR201^" ⇒ "OK^006^09^82^" ∷ gives (change 6 1 9 0) ∷ "CR212^c rd" ⇒ "012^" ∷ [];
  count = 1;
  j = 211;
  address = "D";
  reply = "006";
  is_on = false;
  found = "^CR201^CR212^CR206^" ⇒ "007^80^014^09^" ∷ [];
}

-- started by the button; nothing pauses it
abbrev pub by_button : Runs
by_button = record {
  begins = record { before = powers 64 ∷ "CW000S00000001000009^CR212^" ⇒ "OK^012^" ∷ []; start = press 1; line = 0 };
  later =
      "##CR201^CR000^CW209002^CW210003^CW210004^CW20400^CW000N1^CW20^CR^" ⇒ "02^S00000001000009^OK^E020^E021^E005^E005^E002^E001^"
      ∷ []
      ++ (others ++ ("CW210002" ⇒ "" ∷ [] ++ (ends ++ (
      "2^CR205^CR210^CR211^#" ⇒ "E002^01^000^000^"
      ∷ gives (0x1E ∷ 0xE2 ∷ 1 ∷ 0 ∷ 0 ∷ 0 ∷ 0 ∷ 0 ∷ 0 ∷ 0 ∷ 1 ∷ 0 ∷ 0 ∷ 0 ∷ 0 ∷ 0 ∷ [])
      ∷ "CR212^c RI" ⇒ "000^"
      ∷ [])))
      );
  count = 3;
  j = 213;
  address = "I";
  reply = "0000";
  is_on = true;
  found = "^CR201^CR205^" ⇒ "0000^02^01^" ∷ [];
}

-- starts that end at once, on the end mark of 000 and on a Bad line
abbrev pub on_end_mark : AtOnce
on_end_mark = record {
  begins = record { before = powers 32 ∷ "CW20601^" ⇒ "OK^" ∷ []; start = press 1; line = 0 };
  is_on_bad = false;
  found = "CR201^CR211^CR212^CR206^" ⇒ "80^000^011^00^" ∷ [];
}

abbrev pub on_bad_line : AtOnce
on_bad_line = record {
  begins = record { before = powers 32 ∷ "CW20601^CW209007^cw 210 005" ⇒ "OK^OK^" ∷ []; start = byte 13; line = 7 };
  is_on_bad = true;
  found = "CR201^CR211^CR212^CR206^" ⇒ "80^007^014^01^" ∷ [];
}

-- ---- what is read when a program has ended

-- on the end mark of 000, with calls of each kind after it that touch nothing of the end
abbrev pub at_end_mark : AtOnce
at_end_mark = record {
  begins = record { before = powers 64 ∷ "CW20601^" ⇒ "OK^" ∷ []; start = press 1; line = 0 };
  is_on_bad = false;
  found = [];
}

abbrev pub end_mark_read : EndRead
end_mark_read = record {
  at_line =
      "#%CR201^CR206^CR211^CR213^CRI^CRD^CR200^CR202^CR208^CR209^CR210^" ⇒ "80^00^000^0000^0000^0000^S00000000000000^00^000^000^000^"
      -- lines, the parameter, a load and a save; errors
      ∷ "CW000S00000000070001^CWIN1^CW200N1^CW209200^CW210007^CW210008^CR000^" ⇒ "OK^OK^OK^OK^OK^OK^S00000000000000^"
      ∷ "^CR^XR211^CW005^CW005X^CR217^CW201N1^CR007^CW210002^CW210004^CW210005^CW210009^CW20^" ⇒
      "E001^E001^E002^E002^E003^E004^E004^E024^E022^E021^E023^E003^E002^"
      ∷ []
      -- refused calls, a read of 212 that is finished by none of them, and an emptying
      ++ (others ++ ("CR212" ⇒ "" ∷ [] ++ (ends ++ ("X^" ⇒ "E002^" ∷ gives (change 255 0 1 0 ++ change 0 0 0 1) ∷ "c#R%2 1 1" ⇒ "" ∷ []))));
  line = 0;
  at_event = "#%CR211^CW209007^" ⇒ "000^OK^" ∷ "cr 2 1#2" ⇒ "" ∷ [];
  is_on_bad = false;
}

-- on the Bad line of 007, which `by_parameter` comes to; a read by D has arrived
abbrev pub bad_line_read : EndRead
bad_line_read = record {
  at_line = "^CR201^#CW000N2^" ⇒ "007^80^OK^" ∷ "%c r 211" ⇒ "" ∷ [];
  line = 7;
  at_event = "^CR206^" ⇒ "007^09^" ∷ lends tick (lent 1600 0 33 0) 31 ∷ "CR2 12" ⇒ "" ∷ [];
  is_on_bad = true;
}
