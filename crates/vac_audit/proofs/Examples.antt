-- The worked heaps are computed.
use Rattle.std.proofs.Common.{refl}
use Rattle.vac_audit.specs.Examples.{SoundHeaps, OneFlaw, TwoFlaws}

pub sound_heaps : SoundHeaps
sound_heaps = record {
  booked = refl;
  coloured = refl;
  all_tables = refl;
}

pub one_flaw : OneFlaw
one_flaw = record {
  pointer_into_a_block = refl;
  pointer_behind_the_last = refl;
  pointer_to_a_root = refl;
  booking_behind_itself = refl;
  car_among_the_bookings = refl;
  one_block_in_two_lists = refl;
  key_0 = refl;
  key_too_large = refl;
  same_key_twice = refl;
  fourth_kind = refl;
  booking_of_id_0 = refl;
  bookings_out_of_order = refl;
  item_booked_twice = refl;
  room_among_the_cars = refl;
  units_of_one_customer = refl;
  total_0 = refl;
  total_too_large = refl;
  price_too_large = refl;
  more_used_than_there = refl;
  booking_of_no_item = refl;
  booking_of_no_units = refl;
  too_many_units = refl;
  sum_too_large = refl;
  fewer_used_than_booked = refl;
  colour_2 = refl;
  red_root = refl;
  uneven = refl;
  red_below_red = refl;
  lost_block = refl;
}

pub two_flaws : TwoFlaws
two_flaws = record {
  left_before_key = refl;
  key_before_counts = refl;
  counts_before_right = refl;
  right_before_colour = refl;
  order_before_item = refl;
  booking_before_next = refl;
  cars_before_customers = refl;
  customers_before_used = refl;
  used_before_free = refl;
  free_before_lost = refl;
  car_before_room = refl;
  smallest_lost = refl;
}
